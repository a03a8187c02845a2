-- Two and three lists that lie along one run: the items of one number are the elements of one index.
use Rattle.nd_array_core.proofs.NamesFromOtherCrates.{◌≡◌, ℕ, ◌<◌, List, ℤ, subst, Option, slice_get, size_of, place_of, reach_down, inside, stored_at}
use Rattle.nd_elements.specs.ElementsAtNumberedPlaces.{in_turn}
use Rattle.nd_elements.specs.elements.PairMaps.{pair_of, pairs_at}
use Rattle.nd_elements.proofs.elements_lemmas.PairMaps.{pair_alike}
use Rattle.nd_array_core.specs.elements.TripleMaps.{items_show, triple_of}
use Rattle.nd_array_core.proofs.elements_lemmas.ClosuresOnTriples.{triple_alike}
use Rattle.nd_array_core.proofs.elements_lemmas.IndexesInMemoryOrder.{IsRunNumbered, run_shows}

-- a list shows what `seen` has at each index, by the lengths and strides of a run from its lowest place on
abbrev pub ShowsAlongRun : {A : Type 0} → List ℕ → List ℤ → List A → (List ℕ → Option A) → Type 0
ShowsAlongRun ns ss xs seen = (i : List ℕ) → inside ns i (stored_at (slice_get xs) (place_of (reach_down ns ss) ss i)) ≡ seen i

-- it does so by equal lengths and strides
pub alike_run : {A : Type 0} {ns ms : List ℕ} {ss ts : List ℤ} → ms ≡ ns → ts ≡ ss → (xs : List A) (seen : List ℕ → Option A) → ShowsAlongRun ms ts xs seen → ShowsAlongRun ns ss xs seen
alike_run {ms = ms} {ss = ss} lengths strides xs seen shows =
    subst (λ ns. ShowsAlongRun ns ss xs seen) lengths (subst (λ ss. ShowsAlongRun ms ss xs seen) strides shows)

pub pairs_in_run : {A B : Type 0} (ns : List ℕ) (ss : List ℤ) (by : IsRunNumbered ns ss) (xs : List A) (ys : List B) (one : List ℕ → Option A) (two : List ℕ → Option B) → ShowsAlongRun ns ss xs one → ShowsAlongRun ns ss ys two
    → (k : ℕ) → k < size_of ns → pairs_at slice_get (in_turn xs) xs slice_get (in_turn ys) ys k ≡ pair_of (one (by.index k)) (two (by.index k))
pairs_in_run ns ss by xs ys one two ours theirs k below = pair_alike (run_shows ns ss by xs one ours k below) (run_shows ns ss by ys two theirs k below)

pub triples_in_run : {A B C : Type 0} (ns : List ℕ) (ss : List ℤ) (by : IsRunNumbered ns ss) (xs : List A) (ys : List B) (zs : List C) (one : List ℕ → Option A) (two : List ℕ → Option B) (three : List ℕ → Option C)
    → ShowsAlongRun ns ss xs one → ShowsAlongRun ns ss ys two → ShowsAlongRun ns ss zs three → (k : ℕ) → k < size_of ns → items_show xs ys zs k ≡ triple_of (one (by.index k)) (two (by.index k)) (three (by.index k))
triples_in_run ns ss by xs ys zs one two three first second third k below = triple_alike (run_shows ns ss by xs one first k below) (run_shows ns ss by ys two second k below) (run_shows ns ss by zs three third k below)
