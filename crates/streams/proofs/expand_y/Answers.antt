use Rattle.std.proofs.Common.{◌≡◌, ℕ, [], ◌++◌, ap, ◌∙◌, arith}
use lib.Seq.{length-take-le}
use Rattle.shake.specs.Shake.{shake256}
use Rattle.layouts.specs.declared.layout.Layout.{Layout}
use Rattle.layouts.specs.Layouts.{y_layout, size}
use Rattle.streams.proofs.Expanding.{got_y}
use Rattle.streams.proofs.expand_y.Goals as goal

pub returns : goal.returns
returns c =
    let long : c.size.result ≡ size (y_layout c.args.p) c.args.p.n = c.size.ensures ∙ ap (λ (l : Layout). size l c.args.p.n) c.y.ensures in
    got_y c.args.p c.requires.trinomial.good _ c.args.out.now c.requires.out_len.0 c.y-2.result c.y-2.ensures c.args.rho.now
    c.args.kappa _ c.unpack.result _ c.to_le_bytes.ensures
    (c.shake256.ensures ∙
    ap (λ (n : ℕ). shake256 (c.args.rho.now ++ (c.to_le_bytes.result ++ [])) n)
    (length-take-le c.size.result _ (omega (arith, long, c.requires.trinomial.y_held)) ∙ long))
    c.unpack.ensures
