-- Rows that were taken from the bytes that are given, and then others.
use Rattle.std.proofs.Common.{◌≡◌, ◌∙◌, ℕ, ◌+◌, ◌-◌, ◌≤◌, List, [], ◌++◌, length, length-append, Option, None, Some, IfSome, Result, Ok, Err, refl, sym, ap, arith, append-nil, append_assoc}
use Rattle.std.specs.Io.KnownBytes.{Consumes}
use Rattle.std.proofs.KnownBytes.{Consumes-nil, Consumes-trans}
use Rattle.nd_picture_text.specs.declared.image_formats.Header.{Header}
use Rattle.nd_picture_text.specs.declared.errors.ImageFlaw.{ImageFlaw}
use Rattle.nd_picture_text.specs.ImageReading.{ImageStop, samples_after}
use Rattle.nd_picture_text.specs.RowwiseImageReading.{samples_of_rows, ReadsThen, TakesRows, IsBadRow}
use Rattle.nd_picture_text.proofs.RasterSamples.{after_none}
use Rattle.nd_picture_text.proofs.RawRows.{rows_none}

after_after : (xs ys : List ℕ) (r : Result (List ℕ) ImageStop) → samples_after xs (samples_after ys r) ≡ samples_after (xs ++ ys) r
after_after xs ys (Ok zs) = ap (λ (l : List ℕ). Ok l) (sym (append_assoc xs ys zs))
after_after xs ys (Err stop) = refl

module _ (h : Header) where
  pub takes_none : (given : Option (List ℕ)) → TakesRows h 0 0 [] given given
  takes_none given = ([], refl, Consumes-nil given, by_known given)
    where
      by_known : (given : Option (List ℕ)) → IfSome given (λ bytes. IfSome given (λ rest. ReadsThen h 0 bytes [] rest))
      by_known None = tt
      by_known (Some bytes) = λ more.
          (let same : 0 + more ≡ more = omega arith in
          ap (λ n. samples_of_rows h n bytes) same ∙ sym (after_none (samples_of_rows h more bytes)))

  pub takes_more : (n m size size' : ℕ) (xs ys : List ℕ) (a b c : Option (List ℕ)) → TakesRows h n size xs a b → TakesRows h m size' ys b c → TakesRows h (n + m) (size + size') (xs ++ ys) a c
  takes_more n m size size' xs ys a b c p q = (p.0 ++ q.0, length-append p.0 q.0 ∙ (λ i. p.1 i + q.1 i), Consumes-trans a b c p.0 q.0 p.2 q.2, by_known a b c p.2 q.2 p.3 q.3)
    where
      by_known : (a b c : Option (List ℕ)) → Consumes a b p.0 → Consumes b c q.0 → IfSome a (λ bytes. IfSome b (λ rest. ReadsThen h n bytes xs rest)) → IfSome b (λ bytes. IfSome c (λ rest. ReadsThen h m bytes ys rest))
          → IfSome a (λ bytes. IfSome c (λ rest. ReadsThen h (n + m) bytes (xs ++ ys) rest))
      by_known None b c first second reads others = tt
      by_known (Some bytes) None c first second reads others = absurd first
      by_known (Some bytes) (Some mid) None first second reads others = absurd second
      by_known (Some bytes) (Some mid) (Some rest) first second reads others = λ more.
          (let sum : n + m + more ≡ n + (m + more) = omega arith in
          ap (λ k. samples_of_rows h k bytes) sum ∙ reads (m + more) ∙ ap (samples_after xs) (others more) ∙ after_after xs ys (samples_of_rows h more rest))

  -- what the rows are that were taken
  pub takes_read : (n size : ℕ) (xs : List ℕ) (given given' : Option (List ℕ)) → TakesRows h n size xs given given' → IfSome given (λ bytes. samples_of_rows h n bytes ≡ Ok xs)
  takes_read n size xs given given' takes = by_known given given' takes.2 takes.3
    where
      by_known : (given given' : Option (List ℕ)) → Consumes given given' takes.0 → IfSome given (λ bytes. IfSome given' (λ rest. ReadsThen h n bytes xs rest)) → IfSome given (λ bytes. samples_of_rows h n bytes ≡ Ok xs)
      by_known None given' consumes reads = tt
      by_known (Some bytes) None consumes reads = absurd consumes
      by_known (Some bytes) (Some rest) consumes reads =
          let none : n ≡ n + 0 = omega arith in
          ap (λ k. samples_of_rows h k bytes) none ∙ reads 0 ∙ ap (samples_after xs) (rows_none h rest) ∙ ap (λ (l : List ℕ). Ok l) (append-nil xs)

  -- where the rows after these go wrong, all go wrong
  pub takes_bad : (n all size byte : ℕ) (flaw : ImageFlaw) (xs : List ℕ) (given given' : Option (List ℕ)) → n ≤ all → TakesRows h n size xs given given' → IfSome given' (λ rest. IsBadRow h (all - n) byte flaw rest)
      → IfSome given (λ bytes. IsBadRow h all (size + byte) flaw bytes)
  takes_bad n all size byte flaw xs given given' few takes bad = by_known given given' takes.2 takes.3 bad
    where
      by_known : (given given' : Option (List ℕ)) → Consumes given given' takes.0 → IfSome given (λ bytes. IfSome given' (λ rest. ReadsThen h n bytes xs rest)) → IfSome given' (λ rest. IsBadRow h (all - n) byte flaw rest) → IfSome given (λ bytes. IsBadRow h all (size + byte) flaw bytes)
      by_known None given' consumes reads bad = tt
      by_known (Some bytes) None consumes reads bad = absurd consumes
      by_known (Some bytes) (Some rest) consumes reads bad =
          let long : length bytes ≡ size + length rest = ap length consumes ∙ length-append takes.0 rest ∙ ap (λ k. k + length rest) takes.1 in
          let rows : all ≡ n + (all - n) = omega (arith, few) in
          let back : length rest - byte ≡ length bytes - (size + byte) = omega (arith, long) in
          (omega (arith, long, bad.0), ap (λ k. samples_of_rows h k bytes) rows ∙ reads (all - n) ∙ ap (samples_after xs) bad.1 ∙ ap (λ k. Err (k, flaw)) back)
