-- What an owned storage holds once a borrow of its elements has ended.
use Rattle.std.specs.Prelude.{ℕ, List, ◌++◌, length, take, drop}
use Rattle.std.specs.Borrow.{Lends, MutBor, Fml, RattleType, Array}
use Rattle.std.specs.Vec.{with_items}
use Rattle.nd_elements.specs.declared.storage.OwnedRepr.{OwnedRepr}
use Rattle.nd_elements.specs.contracts.storage.OwnedRepr.{the_row}

module _ {A : Type 0} where
  -- Returns the storage `s` with the elements `ws`, which are cut or filled up with those of `s`: it has as many as
  -- before.
  abbrev pub owned_with : OwnedRepr A → List A → OwnedRepr A
  owned_with s ws = record { items = with_items s.items ws }

  -- Returns `xs` with `ws` in place of as many of its items from `first` on.
  abbrev pub written_from : List A → ℕ → List A → List A
  written_from xs first ws = take first xs ++ (ws ++ drop (length ws) (drop first xs))

-- Says that the storage behind `s` ends with the last elements of the slice behind `r`.
abbrev pub items_follow : (R : RattleType) → MutBor (OwnedRepr R.Denot) → MutBor (List R.Denot) → Fml
items_follow R s r = Lends (the_row R) (Array R 0) s r (owned_with s.now)

-- Says that the storage behind `s` ends as it is now, except that from the place `first` on it has the last elements of
-- the slice behind `r`.
abbrev pub vec_run_follows : (R : RattleType) → MutBor (OwnedRepr R.Denot) → ℕ → MutBor (List R.Denot) → Fml
vec_run_follows R s first r = Lends (the_row R) (Array R 0) s r (λ ws. owned_with s.now (written_from s.now.items.items first ws))
