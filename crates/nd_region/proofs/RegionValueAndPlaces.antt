-- What the walks share: a region's value and its places, taken apart and put together. Assumes `Logic`.
--     rg_had, rg_made      a region by value, to the borrow that it holds and back
--     of_cells, to_cells   contiguous elements are places all of which are in the mask
--     spot_out, spot_in    one place that is in the mask is taken out of the row, and put back
use Rattle.nd_region.proofs.SeparationLogicImports.{◌≡◌, refl, sym, ap, subst, ◌∙◌, Bool, true, false, ◌&&◌, ℕ, zero, suc, ◌+◌, ◌*◌, ◌<◌, ◌≤◌, ◌^◌, List, [], ◌∷◌, ◌++◌, length, set, replicate, length-replicate, Ura, full_share, coded_list, T, lit<, w64, ty_ptr, Val, vptr, vint, vstruct, vcons, vnil, of_list, has_ty, WT, ent, sep, emp, id⊢, never, mono_r, Lft, GName, Share, Fml, ftrue, fsep, flft, fobs, fbor, Logic, sem, Goal, Seq, Step, step, Item, ‵, raw, some, later, ◌⊛◌, ◌$◌, ◌∵◌, !, qed, move, drop, keep, use0, use1, use2, split, rewrite, group, await, updating, pick, split3, show, mean, fsplit, fjoin, fpick, feq_l, feq_i, flt_l, flt_i, now, done, SemTy, cells, Arr, Body, open_ref, after, takes_part, RattleType, part_at, mem, place, place_is, Is, Tells, shows, Ptr, block_ptr, null_ptr, ptr_val, in_block, in_a_block, NamedLft, makes_shadow, peeks, Struct, Owning}
use native.Mathlib.Omega.{arith}
use native.Mathlib.Nat.{not-suc-le-zero, mul-le-mul_right, one-mul}
use denote.Struct.Owning.{shape}
use Rattle.std.specs.Prelude.{Option, Some, None, IsSome}
use Rattle.std.proofs.mem.Param.{El, R, el_x, Good, lawful, one}
use Rattle.nd_region.specs.declared.divided_mutable_borrow.Region.{Region}
use Rattle.nd_region.specs.contracts.divided_mutable_borrow.Region as C
use Rattle.nd_region.specs.RegionMemory.{bytes_of, spot, spots, Spots, loan, region}
use Rattle.nd_region.specs.RegionPlaces.{element_in, stored_in}

pub no_some : {X : Type 0} {x : X} → None ≡ Some x → ⊥
no_some e = cc

pub some_is : {X : Type 0} {x y : X} → Some x ≡ Some y → x ≡ y
some_is e = cc

pub stored_suc : {X : Type 0} (f : Bool) (y : X) (xs : List X) (fs : List Bool) (i : ℕ) {x : X} → element_in (y ∷ xs) (f ∷ fs) (suc i) ≡ Some x → element_in xs fs i ≡ Some x
stored_suc true y xs fs i e = e
stored_suc false y xs fs i e = e

-- the place has an element
abbrev pub Held : {X : Type 0} → List X → List Bool → ℕ → Type 0
Held {X} xs fs i = (x : X) × (element_in xs fs i ≡ Some x)

some_held : {X : Type 0} (o : Option X) → IsSome o → (x : X) × (o ≡ Some x)
some_held None s = cc
some_held (Some x) s = (x, refl)

pub held_at : {X : Type 0} (xs : List X) (fs : List Bool) (i : ℕ) → IsSome (stored_in xs fs i) → Held xs fs i
unfolding stored_in
held_at xs fs i s = some_held (element_in xs fs i) s

pub told : {X : Type 0} (xs : List X) (fs : List Bool) (i : ℕ) (g : Held xs fs i) → stored_in xs fs i ≡ Some g.0
unfolding stored_in
told xs fs i g = g.1

-- such a place is below the length of the mask, and of the row
pub below : {X : Type 0} (xs : List X) (fs : List Bool) (i : ℕ) {x : X} → element_in xs fs i ≡ Some x → (i < length fs) × (i < length xs)
below [] fs i e = absurd (no_some e)
below (y ∷ xs) [] i e = absurd (no_some e)
below (y ∷ xs) (f ∷ fs) zero e = (omega arith, omega arith)
below (y ∷ xs) (f ∷ fs) (suc i) e = let lt = below xs fs i (stored_suc f y xs fs i e) in (omega (arith, lt.0), omega (arith, lt.1))

pub place_within : {X : Type 0} (xs : List X) (fs : List Bool) (i n : ℕ) → length fs ≡ n → Held xs fs i → i < n
place_within xs fs i n e g = subst (λ (k : ℕ). i < k) e (below xs fs i g.1).0

-- a place's offset, and an element's size, are words where there is such a place
pub times_below : (i n s : ℕ) → i < n → n * s < 2 ^ 63 → i * s < 2 ^ 64
times_below i n s lt fit = let le : i * s ≤ n * s = mul-le-mul_right s (omega arith) in omega arith

pub one_below : (n s i : ℕ) → i < n → n * s < 2 ^ 63 → s < 2 ^ 64
one_below n s i lt fit = let le : 1 * s ≤ n * s = mul-le-mul_right s (omega arith) in omega (arith, one-mul s)

abbrev pub rg_val : Ptr → ℕ → Val
rg_val p n = vstruct (vcons (ptr_val p) (vcons (vint w64 n) (vcons (vstruct vnil) vnil)))

module _ {M : Type 1} {𝓤 : Ura M} {𝓛 : Logic 𝓤} {K : Type 0} {Γ : List (Item 𝓤)} {G : Goal 𝓤 𝓛.H} where
  -- what is owned of a parameter's value is one machine value
  pub tells : K → (E : El) (a : el_x E) (vs : List Val) → ((v : Val) → vs ≡ v ∷ [] → Good E v → Seq K 𝓛 (‵ (E.row.own_val a (v ∷ [])) ∷ Γ) G) → Seq K 𝓛 (‵ (E.row.own_val a vs) ∷ Γ) G
  tells t E a vs k =
      peeks t (R E) (Is (R E)) (shows 𝓛 (R E)) a vs (λ is.
      let got = one E vs ((lawful E 𝓛).typed a vs is) in
      rewrite t 0 (λ (us : List Val). ‵ (E.row.own_val a us)) got.1 refl $ k got.0 got.1 got.2)

-- the pointer and the count have their types
pub ptr_Good : (p : Ptr) → T (has_ty ty_ptr (ptr_val p) && true) × WT (ptr_val p)
ptr_Good (block_ptr b o) = (tt, tt)
ptr_Good null_ptr = (tt, record { fits = lit< tt })

module _ (E : El) where
  abbrev pub sz : ℕ
  sz = bytes_of (R E)

  abbrev pub rg_d : Type 0
  rg_d = Region (el_x E)

  abbrev pub row_at : ℕ → ℕ → List (el_x E) → List Bool → Fml
  row_at b o xs fs = spots (R E) (block_ptr b o) xs fs

module _ (a : NamedLft) (E : El) where
  abbrev pub owning : Owning
  owning = C.the_type a (R E)

  abbrev pub Rg : RattleType
  Rg = C.the_row a (R E)

  abbrev pub Words : RattleType
  Words = Struct (shape owning)

  words_made : {M : Type 1} {𝓤 : Ura M} (𝓛 : Logic 𝓤) (b o n : ℕ) → n < 2 ^ 64 → ent 𝓤 (emp 𝓤) (sem 𝓛 (Words.own_val (block_ptr b o, (n, (tt, tt))) (rg_val (block_ptr b o) n ∷ [])))
  words_made 𝓛 b o n fn = makes_shadow 𝓛 (Words.own_val (block_ptr b o, (n, (tt, tt))) (rg_val (block_ptr b o) n ∷ [])) (λ vss. (tt, (tt, ((tt, tt), ((λ uss. (tt, tt)), tt)))))
      ((vptr b o ∷ [], (vint w64 n ∷ [], (vstruct vnil ∷ [], tt))), (refl, (refl, ((refl, fn), ((tt, (refl, tt)), tt)))))

  -- a region's machine value
  abbrev pub rg_vals : rg_d E → List Val
  rg_vals d = rg_val d.ptr d.len ∷ []

  pub rg_Tells : Tells Rg (Is Rg) rg_vals
  rg_Tells d vs is = is.0.1.0 ∙ (λ i. vstruct (of_list (is.0.1.1.0 i ++ (is.0.1.1.1.0.0 i ++ (is.0.1.1.1.1.0.1.0 i ++ [])))) ∷ [])

  module _ {M : Type 1} {𝓤 : Ura M} {𝓛 : Logic 𝓤} {K : Type 0} {Γ : List (Item 𝓤)} {G : Goal 𝓤 𝓛.H} where
    pub rg_had : K → (d : rg_d E) (vs : List Val)
        → ((b o : ℕ) → d.ptr ≡ block_ptr b o → vs ≡ rg_val (block_ptr b o) d.len ∷ [] → d.len < 2 ^ 64 → d.len * sz E < 2 ^ 63 → length d.held ≡ d.len
        → Seq K 𝓛 (‵ (loan (R E) a.lft (block_ptr b o) d.name d.items d.held) ∷ Γ) G)
        → Seq K 𝓛 (‵ (Rg.own_val d vs) ∷ Γ) G
    rg_had t d vs k =
        fsplit t $ fpick t (λ vss. fsplit t $ feq_l t (λ all. fsplit t $ feq_l t (λ e₀. fsplit t $ fsplit t $ feq_l t (λ e₁. flt_l t (λ fn. fsplit t $ fpick t (λ uss. fsplit t $ feq_l t (λ e₂. drop t $ drop t $
        fsplit t $ flt_l t (λ fit. fsplit t $ feq_l t (λ long.
        in_a_block t d.ptr (λ p. in_block p (loan (R E) a.lft p d.name d.items d.held)) (id⊢ 𝓤 (never 𝓤)) (λ b o e.
        k b o e (all ∙ ((λ i. vstruct (of_list (e₀ i ++ (e₁ i ++ (e₂ i ++ [])))) ∷ []) ∙ ap (λ (p : Ptr). rg_val p d.len ∷ []) e)) fn fit long))))))))))

    pub rg_made : K → (d : rg_d E) (b o : ℕ) → d.ptr ≡ block_ptr b o → d.len < 2 ^ 64 → d.len * sz E < 2 ^ 63 → length d.held ≡ d.len
        → Step K 𝓛 (‵ (Rg.own_val d (rg_val (block_ptr b o) d.len ∷ [])) ∷ Γ) G (‵ (loan (R E) a.lft (block_ptr b o) d.name d.items d.held) ∷ Γ) G
    rg_made t d b o at fn fit long = step (λ s.
        feq_i t ℕ (length d.held) d.len long $ fjoin t $ flt_i t (d.len * sz E) (2 ^ 63) fit $ fjoin t $
        use0 𝓛 (‵ (Words.own_val (block_ptr b o, (d.len, (tt, tt))) (rg_val (block_ptr b o) d.len ∷ []))) (words_made 𝓛 b o d.len fn) $ fjoin t $
        rewrite t 0 (λ (p : Ptr). ‵ (fsep (Words.own_val (p, (d.len, (tt, tt))) (rg_val (block_ptr b o) d.len ∷ [])) (region (R E) a.lft p d.len d.name d.items d.held))) (sym at) refl $ s)

module _ (E : El) {M : Type 1} {𝓤 : Ura M} (𝓛 : Logic 𝓤) (b : ℕ) where
  open 𝓛 use {H, A}

  abbrev s : ℕ
  s = sz E

  abbrev Row : ℕ → List (el_x E) → List Bool → Fml
  Row o xs fs = row_at E b o xs fs

  pub of_cells : (xs : List (el_x E)) (o : ℕ) → ent 𝓤 (sem 𝓛 (cells (mem (R E)) xs b o)) (sem 𝓛 (Row o xs (replicate (length xs) true)))
  of_cells [] o = id⊢ 𝓤 (emp 𝓤)
  of_cells (x ∷ xs) o = mono_r 𝓤 (sem 𝓛 (part_at (R E) full_share x b o)) (of_cells xs (o + s))

  pub to_cells : (xs : List (el_x E)) (n o : ℕ) → length xs ≡ n → ent 𝓤 (sem 𝓛 (Row o xs (replicate n true))) (sem 𝓛 (cells (mem (R E)) xs b o))
  to_cells [] n o e = id⊢ 𝓤 (emp 𝓤)
  to_cells (x ∷ xs) zero o e = let e' : suc (length xs) ≡ 0 = e in absurd (not-suc-le-zero {n = 0} (omega arith))
  to_cells (x ∷ xs) (suc n) o e = let e' : suc (length xs) ≡ suc n = e in mono_r 𝓤 (sem 𝓛 (part_at (R E) full_share x b o)) (to_cells xs n (o + s) (omega arith))

  -- the row but for the i-th place
  abbrev pub spots_but : ℕ → List (el_x E) → List Bool → ℕ → Fml
  spots_but o [] fs i = ftrue
  spots_but o (x ∷ xs) [] i = ftrue
  spots_but o (x ∷ xs) (f ∷ fs) zero = Row (o + s) xs fs
  spots_but o (x ∷ xs) (f ∷ fs) (suc i) = fsep (spot (R E) f (block_ptr b o) x) (spots_but (o + s) xs fs i)

  takes : (xs : List (el_x E)) (fs : List Bool) (i : ℕ) (x : el_x E) (o : ℕ) → element_in xs fs i ≡ Some x
      → ent 𝓤 (sem 𝓛 (Row o xs fs)) (sep 𝓤 (sem 𝓛 (part_at (R E) full_share x b (place s o i))) (sem 𝓛 (spots_but o xs fs i)))
  takes [] fs i x o e = absurd (no_some e)
  takes (y ∷ xs) [] i x o e = absurd (no_some e)
  takes (y ∷ xs) (true ∷ fs) zero x o e = qed 𝓛 (‵ (part_at (R E) full_share y b o) ∷ ‵ (Row (o + s) xs fs) ∷ []) ∵
      rewrite ! 0 (λ (z : el_x E). ‵ (part_at (R E) full_share z b o)) (some_is e) refl $ done !
  takes (y ∷ xs) (false ∷ fs) zero x o e = absurd (no_some e)
  takes (y ∷ xs) (f ∷ fs) (suc i) x o e = qed 𝓛 (‵ (spot (R E) f (block_ptr b o) y) ∷ ‵ (Row (o + s) xs fs) ∷ []) ∵ move ! (1 ∷ []) $
      use1 𝓛 (‵ (part_at (R E) full_share x b (place s (o + s) i)) ⊛ ‵ (spots_but (o + s) xs fs i)) (takes xs fs i x (o + s) (stored_suc f y xs fs i e)) $ split ! $ move ! (2 ∷ 1 ∷ []) $ fjoin ! $ move ! (1 ∷ []) $ done !

  puts : (xs : List (el_x E)) (fs : List Bool) (i : ℕ) (x y : el_x E) (o : ℕ) → element_in xs fs i ≡ Some x
      → ent 𝓤 (sep 𝓤 (sem 𝓛 (part_at (R E) full_share y b (place s o i))) (sem 𝓛 (spots_but o xs fs i))) (sem 𝓛 (Row o (set xs i y) fs))
  puts [] fs i x y o e = absurd (no_some e)
  puts (z ∷ xs) [] i x y o e = absurd (no_some e)
  puts (z ∷ xs) (true ∷ fs) zero x y o e = qed 𝓛 (‵ (part_at (R E) full_share y b o) ∷ ‵ (Row (o + s) xs fs) ∷ []) ∵ done !
  puts (z ∷ xs) (false ∷ fs) zero x y o e = absurd (no_some e)
  puts (z ∷ xs) (f ∷ fs) (suc i) x y o e = qed 𝓛 (‵ (part_at (R E) full_share y b (place s (o + s) i)) ∷ ‵ (spots_but o (z ∷ xs) (f ∷ fs) (suc i)) ∷ []) ∵ move ! (1 ∷ []) $ fsplit ! $ move ! (2 ∷ 1 ∷ []) $
      use2 𝓛 (‵ (Row (o + s) (set xs i y) fs)) (puts xs fs i x y (o + s) (stored_suc f z xs fs i e)) $ move ! (1 ∷ 0 ∷ []) $ fjoin ! $ done !

  module _ (o : ℕ) (xs : List (el_x E)) (fs : List Bool) (i : ℕ) (x : el_x E) (e : element_in xs fs i ≡ Some x) where
    pub spot_out : ent 𝓤 (sem 𝓛 (Row o xs fs)) (sep 𝓤 (sem 𝓛 (part_at (R E) full_share x b (i * s + o))) (sem 𝓛 (spots_but o xs fs i)))
    spot_out = subst (λ (k : ℕ). ent 𝓤 (sem 𝓛 (Row o xs fs)) (sep 𝓤 (sem 𝓛 (part_at (R E) full_share x b k)) (sem 𝓛 (spots_but o xs fs i)))) (place_is s o i) (takes xs fs i x o e)

    pub spot_in : (y : el_x E) → ent 𝓤 (sep 𝓤 (sem 𝓛 (part_at (R E) full_share y b (i * s + o))) (sem 𝓛 (spots_but o xs fs i))) (sem 𝓛 (Row o (set xs i y) fs))
    spot_in y = subst (λ (k : ℕ). ent 𝓤 (sep 𝓤 (sem 𝓛 (part_at (R E) full_share y b k)) (sem 𝓛 (spots_but o xs fs i))) (sem 𝓛 (Row o (set xs i y) fs))) (place_is s o i) (puts xs fs i x y o e)

  -- a borrow of contiguous elements becomes one of their places
  module _ (o : ℕ) (κ : Lft) (q : Share) (γ : GName) (xs : List (el_x E)) where
    abbrev pub Lenders : SemTy
    Lenders = Arr (mem (R E)) (length xs)

    abbrev pub Whole : SemTy
    Whole = Spots (R E) (block_ptr b o) (replicate (length xs) true)

    abbrev pub Began : GName → Item 𝓤
    Began δ = ‵ (loan (R E) κ (block_ptr b o) δ xs (replicate (length xs) true)) ⊛ ‵ (flft κ q) ⊛ ‵ (after Lenders Whole γ δ (λ w. w))

    whole_back : (w : List (el_x E)) → ent 𝓤 (sep 𝓤 (sem 𝓛 (Whole.own_at w 0 0)) (emp 𝓤)) (sem 𝓛 (Lenders.own_at w b o))
    whole_back w = qed 𝓛 (‵ (Whole.own_at w 0 0) ∷ raw (emp 𝓤) ∷ []) ∵ fsplit ! $ feq_l ! (λ e.
        let long : length w ≡ length xs = e ∙ length-replicate (length xs) true in
        use1 𝓛 (‵ (cells (mem (R E)) w b o)) (to_cells w (length xs) o long) $ feq_i ! ℕ (length w) (length xs) long $ fjoin ! $ keep ! (0 ∷ []) $ done !)

    pub begins : ent 𝓤 (sep 𝓤 (A.obs γ ((coded_list (R E).coded).code xs)) (sep 𝓤 (A.bor κ (Body Lenders b o γ)) (A.lft κ q))) (H.⇛ (mean 𝓛 (some Began)))
    begins = qed 𝓛 (‵ (fobs γ ((coded_list (R E).coded).code xs)) ∷ ‵ (fbor κ (Body Lenders b o γ)) ∷ ‵ (flft κ q) ∷ []) ∵ updating ! $
        open_ref ! tt Lenders {x = xs} {b = b} {o = o} $ fsplit ! $ drop ! $ use1 𝓛 (‵ (Row o xs (replicate (length xs) true))) (of_cells xs o) $
        feq_i ! ℕ (length xs) (length (replicate (length xs) true)) (sym (length-replicate (length xs) true)) $ fjoin ! $ use0 𝓛 (raw (emp 𝓤)) (id⊢ 𝓤 (emp 𝓤)) $ move ! (2 ∷ 3 ∷ 4 ∷ 1 ∷ 0 ∷ []) $ group ! 5 $
        use1 𝓛 (later (some (λ (δ : GName). ‵ (fobs δ ((coded_list (R E).coded).code xs)) ⊛ ‵ (fbor κ (Body Whole 0 0 δ)) ⊛ ‵ (flft κ q) ⊛ ‵ (after Lenders Whole γ δ (λ w. w)))))
        (takes_part 𝓛 Lenders Whole (λ w. w) κ q b o 0 0 γ (emp 𝓤) whole_back ((coded_list (R E).coded).code xs) ((coded_list (R E).coded).code xs) xs) $ await ! tt $ pick ! (λ δ. split3 ! $
        fjoin ! $ move ! (1 ∷ []) $ split ! $ now ! $ show ! (λ (z : GName). mean 𝓛 (Began z)) δ $ move ! (2 ∷ 0 ∷ 1 ∷ []) $ done !)
