-- Each public contract of this crate permits one outcome.
use mathlib.Core.Path.{refl, sym, ◌∙◌}
use Rattle.outcome.proofs.One.{One, determined}
use Rattle.layouts.proofs.layout.Layout.of.Reads as layout_of
use Rattle.layouts.proofs.layout.Layout.of.Kinds as layout_of_kinds
use Rattle.layouts.proofs.layout.Layout.y.Reads as layout_y
use Rattle.layouts.proofs.layout.Layout.y.Kinds as layout_y_kinds
use Rattle.layouts.proofs.layout.Layout.hint.Reads as layout_hint
use Rattle.layouts.proofs.layout.Layout.hint.Kinds as layout_hint_kinds
use Rattle.layouts.proofs.layout.Layout.size.Reads as layout_size
use Rattle.layouts.proofs.layout.Layout.size.Kinds as layout_size_kinds
use Rattle.layouts.proofs.unpack.unpack.Reads as unpack
use Rattle.layouts.proofs.unpack.unpack.Kinds as unpack_kinds
use Rattle.layouts.proofs.unpack.count_ones.Reads as count_ones
use Rattle.layouts.proofs.unpack.count_ones.Kinds as count_ones_kinds
use Rattle.layouts.proofs.pack.codes_of.Reads as codes_of
use Rattle.layouts.proofs.pack.codes_of.Kinds as codes_of_kinds

-- ---- the layouts
pub layout_of_one : One 0 layout_of_kinds.ps layout_of_kinds.r layout_of.Post (λ κs s. tt {0})
layout_of_one κs a x y s t p q = (p ∙ sym q, refl)

pub layout_y_one : One 0 layout_y_kinds.ps layout_y_kinds.r layout_y.Post (λ κs s. tt {0})
layout_y_one κs a x y s t p q = (p ∙ sym q, refl)

pub layout_hint_one : One 0 layout_hint_kinds.ps layout_hint_kinds.r layout_hint.Post (λ κs s. tt {0})
layout_hint_one κs a x y s t p q = (p ∙ sym q, refl)

pub layout_size_one : One 0 layout_size_kinds.ps layout_size_kinds.r layout_size.Post (λ κs s. tt {0})
layout_size_one κs a x y s t p q = (p ∙ sym q, refl)

-- ---- elements and hints
pub unpack_one : One 2 unpack_kinds.ps unpack_kinds.r unpack.Post (λ κs s. s.1.1.1.0.now)
unpack_one κs a x y s t p q = determined _ x y s.1.1.1.0.now t.1.1.1.0.now p q

pub codes_of_one : One 2 codes_of_kinds.ps codes_of_kinds.r codes_of.Post (λ κs s. s.1.1.0.now)
codes_of_one κs a x y s t p q = determined _ x y s.1.1.0.now t.1.1.0.now p q

pub count_ones_one : One 1 count_ones_kinds.ps count_ones_kinds.r count_ones.Post (λ κs s. tt {0})
count_ones_one κs a x y s t p q = (p ∙ sym q, refl)
