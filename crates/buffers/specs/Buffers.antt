-- One list written over another from the front. The promise of `buffers::copy` rests on this file, and no definition of the scheme.
use Rattle.std.specs.Prelude.{List, ◌++◌, length, take, drop}

-- xs as far as ys reaches, then what is left of ys
abbrev pub overlay : {A : Type 0} → List A → List A → List A
overlay xs ys = take (length ys) xs ++ drop (length xs) ys
