use mathlib.Core.Path.{sym, ap, ◌∙◌}
use mathlib.Core.List.{append-nil}
use lib.ListN.{length}
use Rattle.answers.proofs.Outcomes.{refusing}
use Rattle.shake.specs.Shake.{shake256}
use Rattle.shake.proofs.Output.{length_shake256}
use Rattle.keys.proofs.Checks.{wrong_zeta, wrong_prime, wrong_public, wrong_secret, all_right}
use Rattle.keys.proofs.Made.{seeds_long}
use Rattle.keys.proofs.make_keys.Goals as goal

pub returns-then-zeta-ne-SEED : goal.returns-then-zeta-ne-SEED
returns-then-zeta-ne-SEED c =
    refusing _ _ _ (wrong_zeta c.args.p c.args.zeta.now c.args.zeta_prime.now c.args.public_key.now c.args.secret_key.now c.if-zeta-ne-SEED.true)

pub returns-then-zeta_prime-ne-SEED : goal.returns-then-zeta_prime-ne-SEED
returns-then-zeta_prime-ne-SEED c =
    refusing _ _ _
    (wrong_prime c.args.p c.args.zeta.now c.args.zeta_prime.now c.args.public_key.now c.args.secret_key.now
    c.if-zeta-ne-SEED.false c.if-zeta_prime-ne-SEED.true)

pub returns-then-public_key-size : goal.returns-then-public_key-size
returns-then-public_key-size c =
    refusing _ _ _
    (wrong_public c.args.p c.args.zeta.now c.args.zeta_prime.now c.args.public_key.now c.args.secret_key.now
    c.if-zeta-ne-SEED.false c.if-zeta_prime-ne-SEED.false (λ e. c.if-public_key-size.true (e ∙ sym c.size.ensures)))

pub returns-then-secret_key-size : goal.returns-then-secret_key-size
returns-then-secret_key-size c =
    refusing _ _ _
    (wrong_secret c.args.p c.args.zeta.now c.args.zeta_prime.now c.args.public_key.now c.args.secret_key.now
    c.if-zeta-ne-SEED.false c.if-zeta_prime-ne-SEED.false (c.if-public_key-size.false ∙ c.size.ensures)
    (λ e. c.if-secret_key-size.true (e ∙ sym c.size-2.ensures)))

pub make_in-requires : goal.make_in-requires
make_in-requires c = record {
  trinomial = c.requires;
  zeta_len = (c.if-zeta-ne-SEED.false, ap length c.shake256.ensures ∙ length_shake256 _ _ ∙ seeds_long);
  public_key_len = (c.if-public_key-size.false ∙ c.size.ensures, c.if-secret_key-size.false ∙ c.size-2.ensures);
}

pub returns : goal.returns
returns c =
    rw
    (all_right c.args.p c.args.zeta.now c.args.zeta_prime.now c.args.public_key.now c.args.secret_key.now
    c.if-zeta-ne-SEED.false c.if-zeta_prime-ne-SEED.false
    (c.if-public_key-size.false ∙ c.size.ensures) (c.if-secret_key-size.false ∙ c.size-2.ensures))
    (rw (c.shake256.ensures ∙ (λ i. shake256 (append-nil c.args.zeta_prime.now i) (seeds_long i))) at c.make_in.ensures)
