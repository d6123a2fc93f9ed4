-- What `reduce` gives over a list, where the first item is taken by itself.
use Rattle.std.proofs.Common.{◌≡◌, Some, Option, List, ◌∷◌, refl}
use Rattle.std.specs.List.{fold, filter_map, reduce}

pub reduced : {A B : Type 0} (h : A → Option B) (g : B → B → B) (all xs : List A) (k : A) (s r : B) → all ≡ k ∷ xs → h k ≡ Some s → r ≡ fold g s (filter_map h xs) → Some r ≡ reduce g (filter_map h all)
reduced h g all xs k s r e v f = rw (e, v, f) refl
