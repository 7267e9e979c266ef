-- Each public contract of this crate permits one outcome: one answer, and one content of the buffer.
use mathlib.Core.Path.{refl, sym, ◌∙◌}
use Rattle.outcome.proofs.One.{One, determined}
use Rattle.answers.proofs.Outcomes.{determined_report}
use Rattle.sampling.proofs.set1.sample_a.Reads as sample_a
use Rattle.sampling.proofs.set1.sample_a.Kinds as sample_a_kinds
use Rattle.sampling.proofs.set1.sample_s.Reads as sample_s
use Rattle.sampling.proofs.set1.sample_s.Kinds as sample_s_kinds
use Rattle.sampling.proofs.set1.sample_challenge.Reads as sample_challenge
use Rattle.sampling.proofs.set1.sample_challenge.Kinds as sample_challenge_kinds
use Rattle.sampling.proofs.RefusalFromDry.from.Reads as from_dry
use Rattle.sampling.proofs.RefusalFromDry.from.Kinds as from_dry_kinds
use Rattle.sampling.proofs.element.draw_a.Reads as draw_a
use Rattle.sampling.proofs.element.draw_a.Kinds as draw_a_kinds
use Rattle.sampling.proofs.small.draw_s.Reads as draw_s
use Rattle.sampling.proofs.small.draw_s.Kinds as draw_s_kinds
use Rattle.sampling.proofs.challenge.draw_challenge.Reads as draw_challenge
use Rattle.sampling.proofs.challenge.draw_challenge.Kinds as draw_challenge_kinds

-- set 1
pub sample_a_one : One 2 sample_a_kinds.ps sample_a_kinds.r sample_a.Post (λ κs s. s.1.0.now)
sample_a_one κs a x y s t p q = determined_report _ x y s.1.0.now t.1.0.now p q

pub sample_s_one : One 2 sample_s_kinds.ps sample_s_kinds.r sample_s.Post (λ κs s. s.1.0.now)
sample_s_one κs a x y s t p q = determined_report _ x y s.1.0.now t.1.0.now p q

pub sample_challenge_one : One 2 sample_challenge_kinds.ps sample_challenge_kinds.r sample_challenge.Post (λ κs s. s.1.0.now)
sample_challenge_one κs a x y s t p q = determined_report _ x y s.1.0.now t.1.0.now p q

-- for any set
pub draw_a_one : One 2 draw_a_kinds.ps draw_a_kinds.r draw_a.Post (λ κs s. s.1.1.0.now)
draw_a_one κs a x y s t p q = determined _ x y s.1.1.0.now t.1.1.0.now p q

pub draw_s_one : One 2 draw_s_kinds.ps draw_s_kinds.r draw_s.Post (λ κs s. s.1.1.0.now)
draw_s_one κs a x y s t p q = determined _ x y s.1.1.0.now t.1.1.0.now p q

pub draw_challenge_one : One 2 draw_challenge_kinds.ps draw_challenge_kinds.r draw_challenge.Post (λ κs s. s.1.1.0.now)
draw_challenge_one κs a x y s t p q = determined _ x y s.1.1.0.now t.1.1.0.now p q

-- what a dry stream refuses
pub refusal_from_dry_one : One 0 from_dry_kinds.ps from_dry_kinds.r from_dry.Post (λ κs s. tt {0})
refusal_from_dry_one κs a x y s t p q = (p ∙ sym q, refl)
