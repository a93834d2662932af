-- A text as it is printed, as the bytes of its characters. Assumes nothing.
use Rattle.std.specs.Prelude.{ℕ}
use Prim.Native.Char.{code}
use Prim.Native.String.{String, [], ◌∷◌}
use mathlib.Core.List as L

abbrev pub letters : String → L.List ℕ
letters [] = L.[]
letters (c ∷ cs) = L.◌∷◌ (code c) (letters cs)
