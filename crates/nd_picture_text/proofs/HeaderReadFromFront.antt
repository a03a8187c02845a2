-- Reading on, and then on again; and the header at the front of what was read.
use Rattle.std.proofs.Common.{◌≡◌, ◌∙◌, ℕ, ◌<◌, inl, inr, List, [], ◌++◌, length, length-append, drop, Option, None, Some, IfSome, Ok, sym, ap, append_assoc, append-nil, arith}
use Rattle.std.specs.Io.KnownBytes.{Consumes, IsAtEnd}
use Rattle.std.proofs.KnownBytes.{Consumes-nil, Consumes-trans}
use Rattle.nd_text.specs.declared.watched_streams.Watched.{Watched}
use Rattle.nd_text.specs.InputReading.{ReadsOn, IsFilled}
use Rattle.nd_text.specs.WatchedReadersAndWriters.{watched_inner}
use Rattle.nd_picture_text.specs.declared.image_formats.Header.{Header}
use Rattle.nd_picture_text.specs.ImageReading.{image_header_in}
use Rattle.nd_picture_text.specs.RowwiseImageReading.{StartsWithHeader, HasFront, HasMore}
use Rattle.nd_picture_text.proofs.HeaderIgnoresFollowingBytes.{front_settled}

-- where the reader still gives bytes, it gave them before
some_by : (old new : Option (List ℕ)) (piece : List ℕ) → Consumes old new piece → IfSome new (λ xs. 0 < length xs) → IfSome old (λ xs. 0 < length xs)
some_by None new piece p some = tt
some_by (Some xs) None piece p some = absurd p
some_by (Some xs) (Some ys) piece p some = omega (arith, some, length-append piece ys, ap length p)

-- the header stays where more bytes change nothing, and where there are no more
settled_by : (known : Option (List ℕ)) (bytes : List ℕ) (x : Header × ℕ) → StartsWithHeader bytes x → HasMore bytes → IfSome known (λ rest. image_header_in (bytes ++ rest) ≡ Ok (x.0, drop x.1 bytes ++ rest))
settled_by None bytes x is has = tt
settled_by (Some rest) bytes x is has = front_settled bytes x rest is has

ended_by : (known : Option (List ℕ)) (bytes : List ℕ) (x : Header × ℕ) → StartsWithHeader bytes x → IsAtEnd known → IfSome known (λ rest. image_header_in (bytes ++ rest) ≡ Ok (x.0, drop x.1 bytes ++ rest))
ended_by None bytes x is end = tt
ended_by (Some rest) bytes x is end =
    let none : rest ≡ [] = end in
    ap (λ (l : List ℕ). image_header_in (bytes ++ l)) none ∙ ap image_header_in (append-nil bytes) ∙ is.2
    ∙ ap (λ (l : List ℕ). Ok (x.0, l)) (sym (append-nil (drop x.1 bytes)) ∙ ap (λ (l : List ℕ). drop x.1 bytes ++ l) (sym none))

module _ {R : Type 0} (remaining : R → Option (List ℕ)) where
  pub reads_nothing : (input : Watched R) (bytes : List ℕ) → ReadsOn remaining input input bytes bytes
  reads_nothing input bytes = ([], sym (append-nil bytes), Consumes-nil (remaining (watched_inner input)))

  pub reads_then : (a b c : Watched R) (xs ys zs : List ℕ) → ReadsOn remaining a b xs ys → ReadsOn remaining b c ys zs → ReadsOn remaining a c xs zs
  reads_then a b c xs ys zs p q = (p.0 ++ q.0, q.1 ∙ ap (λ (l : List ℕ). l ++ q.0) p.1 ∙ append_assoc xs p.0 q.0, Consumes-trans _ _ _ p.0 q.0 p.2 q.2)

  pub some_before : (a b : Watched R) (xs ys : List ℕ) → ReadsOn remaining a b xs ys → IfSome (remaining (watched_inner b)) (λ zs. 0 < length zs) → IfSome (remaining (watched_inner a)) (λ zs. 0 < length zs)
  some_before a b xs ys p some = some_by (remaining (watched_inner a)) (remaining (watched_inner b)) p.0 p.2 some

  pub front_of_settled : (input : Watched R) (bytes : List ℕ) (found : Option (Header × ℕ)) → IfSome found (λ x. StartsWithHeader bytes x) → HasMore bytes → IfSome found (λ x. HasFront remaining input bytes x)
  front_of_settled input bytes None is has = tt
  front_of_settled input bytes (Some x) is has = (is.0, is.1, settled_by (remaining (watched_inner input)) bytes x is has)

  pub front_at_end : (input : Watched R) (bytes : List ℕ) (size : ℕ) (found : Option (Header × ℕ)) → IfSome found (λ x. StartsWithHeader bytes x) → IsFilled remaining input bytes size → length bytes < size → IfSome found (λ x. HasFront remaining input bytes x)
  front_at_end input bytes size None is filled less = tt
  front_at_end input bytes size (Some x) is (inl enough) less = absurd (omega (arith, enough, less))
  front_at_end input bytes size (Some x) is (inr end) less = (is.0, is.1, ended_by (remaining (watched_inner input)) bytes x is end)
