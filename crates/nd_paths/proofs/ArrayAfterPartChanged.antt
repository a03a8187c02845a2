-- A task on the part of an array that a path leads to: what the array means before and after it.
use Rattle.std.proofs.Common.{◌≡◌, ℕ, Bool, true, false, List, Option, Some, None, refl, sym, ap, ◌∙◌, subst, if◌then◌else◌}
use Rattle.std.proofs.Math.Path.{fun_ext}
use Rattle.std.specs.Prelude.{is_some}
use Rattle.nd_shape_and_slice.specs.ShapesAndIndexOrders.{in_box}
use Rattle.nd_array_core.specs.ArrayMeaning.{Meaning, inside}
use Rattle.nd_array_core.specs.ArrayInStorage.{PlacedArray, found_at, element_placed}
use Rattle.nd_array_core.specs.LayoutLaws.{IndexesHavePlaces, DistinctPlaces}
use Rattle.nd_array_core.specs.base.ArrayWrites.{OthersStay}
use Rattle.nd_array_core.specs.scoped.ViewTasks.{OthersKeep, IsViewThrough}
use Rattle.nd_paths.specs.CallbacksOnViewsAndSplits.{PathMap, seen_along, meaning_placed, meaning_left}

module _ {A : Type 0} where
  -- two arrays of one shape with the same elements mean the same
  pub alike : (old new : Meaning A) → new.shape ≡ old.shape → ((i : List ℕ) → new.at i ≡ old.at i) → new ≡ old
  alike old new e h = go new.shape new.at e h
    where
      go : (s : List ℕ) (at : List ℕ → Option A) → s ≡ old.shape → ((i : List ℕ) → at i ≡ old.at i) → (let m : Meaning A = record { shape = s; at = at } in m) ≡ old
      go s at e h = rw (fun_ext h, e) refl

  -- what the array that lies as v means once the storage is another
  abbrev pub in_stored : PlacedArray A → (ℕ → Option A) → Meaning A
  in_stored v stored = record { shape = v.placed_shape; at = λ i. found_at stored (v.place i) }

  -- where the storage stays, so does all that the array means
  pub stays : (v w : PlacedArray A) → w.stored ≡ v.stored → meaning_left v w ≡ meaning_placed v
  stays v w same = ap (in_stored v) same

-- ---- an array that lies as e, where the path leads from one that lies as v
module _ {A E : Type 0} (p : PathMap E) (v e : PlacedArray A) (shape : e.placed_shape ≡ p.part_lengths v.placed_shape) (places : (i : List ℕ) → e.place i ≡ inside e.placed_shape i (v.place (p.array_index v.placed_shape i))) where
  -- what it means, whatever is stored
  pub end_means : (m : Meaning A) (stored : ℕ → Option A) → m.shape ≡ e.placed_shape → ((i : List ℕ) → m.at i ≡ found_at stored (e.place i)) → m ≡ seen_along p (in_stored v stored)
  end_means m stored same shows = alike (seen_along p (in_stored v stored)) m (same ∙ shape) (λ i. shows i ∙ (ap (found_at stored) (places i) ∙ (by_box i (in_box e.placed_shape i) refl ∙ ap (λ ns. inside ns i (found_at stored (v.place (p.array_index v.placed_shape i)))) shape)))
    where
      by_box : (i : List ℕ) (b : Bool) → in_box e.placed_shape i ≡ b → found_at stored (inside e.placed_shape i (v.place (p.array_index v.placed_shape i))) ≡ inside e.placed_shape i (found_at stored (v.place (p.array_index v.placed_shape i)))
      by_box i true h = rw h refl
      by_box i false h = rw h refl

  -- an index that none of e's names keeps its element, where the places of e alone change
  pub others_keep : (stored : ℕ → Option A) → IndexesHavePlaces e → DistinctPlaces v → OthersStay e.place v.stored stored → OthersKeep (p.part_lengths v.placed_shape) (p.array_index v.placed_shape) (element_placed v) (λ i. found_at stored (v.place i))
  others_keep stored has distinct others i none = by_place (v.place i) refl
    where
      by_place : (o : Option ℕ) → v.place i ≡ o → found_at stored o ≡ found_at v.stored o
      by_place None h = refl
      by_place (Some q) h =
          others q
          (λ j at.
          let box : in_box e.placed_shape j ≡ true = sym (has j) ∙ ap is_some at in
          let old : v.place (p.array_index v.placed_shape j) ≡ Some q = sym (ap (λ b. if b then v.place (p.array_index v.placed_shape j) else None) box) ∙ (sym (places j) ∙ at) in
          none j (ap (λ ns. in_box ns j) (sym shape) ∙ box) (distinct (p.array_index v.placed_shape j) i q old h))

-- ---- two views of one map, before and after
module _ {A : Type 0} where
  pub left_seen : (v w : PlacedArray A) (shape shape' : List ℕ) (source : List ℕ → List ℕ) (place place' : List ℕ → Option ℕ) (at at' : List ℕ → Option A) → IsViewThrough shape source place at v → IsViewThrough shape source place' at' w → ((i : List ℕ) → place' i ≡ place i) → shape' ≡ shape
      → meaning_left v w ≡ (let m : Meaning A = record { shape = shape'; at = λ i. inside shape' i (at' (source i)) } in m)
  left_seen v w shape shape' source place place' at at' before after same e =
      alike (let m : Meaning A = record { shape = shape'; at = λ i. inside shape' i (at' (source i)) } in m) (meaning_left v w) (before.same_shape ∙ sym e)
      (λ i. ap (found_at w.stored) (before.same_place i ∙ (ap (inside shape i) (sym (same (source i))) ∙ sym (after.same_place i))) ∙ (after.same_element i ∙ ap (λ ns. inside ns i (at' (source i))) (sym e)))

  -- what is said of four meanings is so of others that are the same
  pub said_of : (says : Meaning A → Meaning A → Meaning A → Meaning A → Type 0) {m m' n n' o o' q q' : Meaning A} → m ≡ m' → n ≡ n' → o ≡ o' → q ≡ q' → says m n o q → says m' n' o' q'
  said_of says {m} {m'} {n} {n'} {o} {o'} {q} {q'} e f h k d = subst (λ x. says m' n' o' x) k (subst (λ x. says m' n' x q) h (subst (λ x. says m' x o q) f (subst (λ x. says x n o q) e d)))
