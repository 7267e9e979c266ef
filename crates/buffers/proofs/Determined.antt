-- Each public contract of this crate permits one outcome: the two generic ones at every type that may be copied.
use mathlib.Core.Path.{refl, sym, ◌∙◌}
use mir.Syntax.{Dict}
use denote.RattleType.{RattleType}
use denote.Param.Laws.{Laws, IsCopy}
use Rattle.std.specs.declared.clone.Clone.{Ghosts}
use Rattle.outcome.proofs.One.{One}
use Rattle.buffers.proofs.copy.Reads as copy
use Rattle.buffers.proofs.copy.Kinds as copy_kinds
use Rattle.buffers.proofs.clear.Reads as clear
use Rattle.buffers.proofs.clear.Kinds as clear_kinds
use Rattle.buffers.proofs.convert.reduce_all.Reads as reduce_all
use Rattle.buffers.proofs.convert.reduce_all.Kinds as reduce_all_kinds
use Rattle.buffers.proofs.convert.store_plain.Reads as store_plain
use Rattle.buffers.proofs.convert.store_plain.Kinds as store_plain_kinds
use Rattle.buffers.proofs.convert.store_centred.Reads as store_centred
use Rattle.buffers.proofs.convert.store_centred.Kinds as store_centred_kinds

-- a type that may be copied, as the checker passes it
module _ (T : RattleType) (laws : Laws T) (copies : IsCopy T) (clones : Ghosts T.Denot) (dict : Dict) where
  pub copy_one : One 3 (copy_kinds.ps T laws copies) (copy_kinds.r T laws copies) (copy.Post T laws copies clones dict) (λ κs s. s.0.now)
  copy_one κs a x y s t p q = (refl, p ∙ sym q)

  pub clear_one : One 2 (clear_kinds.ps T laws copies) (clear_kinds.r T laws copies) (clear.Post T laws copies clones dict) (λ κs s. s.0.now)
  clear_one κs a x y s t p q = (refl, p ∙ sym q)

pub reduce_all_one : One 2 reduce_all_kinds.ps reduce_all_kinds.r reduce_all.Post (λ κs s. s.1.1.0.now)
reduce_all_one κs a x y s t p q = (refl, p ∙ sym q)

pub store_plain_one : One 2 store_plain_kinds.ps store_plain_kinds.r store_plain.Post (λ κs s. s.1.0.now)
store_plain_one κs a x y s t p q = (refl, p ∙ sym q)

pub store_centred_one : One 2 store_centred_kinds.ps store_centred_kinds.r store_centred.Post (λ κs s. s.1.1.0.now)
store_centred_one κs a x y s t p q = (refl, p ∙ sym q)
