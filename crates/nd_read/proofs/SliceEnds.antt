-- The end of a slice that is read is the one that the word writes, and the one that it writes is read.
use Rattle.std.proofs.Common.{◌≡◌, ℕ, Bool, true, false, cond, List, [], ◌∷◌, ℤ, Option, Some, None, refl, sym, ap, ◌∙◌}
use Rattle.std.specs.Str.{bytes_eq}
use Rattle.std.specs.Option.{option_map}
use Rattle.std.proofs.lemmas.Slice.Eq.{bytes_eq-Decides}
use Rattle.nd_text.specs.DecimalNumerals.{int_of}
use Rattle.nd_text.proofs.NumbersReadAndWritten.{int_takes, int_again}
use Rattle.nd_read.specs.LineGrammar.{IsEnd}
use Rattle.nd_read.specs.LineReaders.{slice_end_of}

mapped : (r : Option ℤ) (end : Option ℤ) → option_map Some r ≡ Some end → (z : ℤ) × (r ≡ Some z) × (end ≡ Some z)
mapped None end e = absurd cc
mapped (Some z) end e = (z, refl, cc)

none_mapped : (r : Option ℤ) → option_map Some r ≡ Some None → ⊥
none_mapped None e = absurd cc
none_mapped (Some z) e = absurd cc

end_by : (t : Bool) (word : List ℕ) (end : Option ℤ) → bytes_eq word (95 ∷ []) ≡ t → cond t (Some None) (option_map Some (int_of word)) ≡ Some end → IsEnd word end
end_by true word None is e = (bytes_eq-Decides word (95 ∷ [])).0 is
end_by true word (Some z) is e = absurd cc
end_by false word None is e = absurd (none_mapped (int_of word) e)
end_by false word (Some z) is e =
    let h = mapped (int_of word) (Some z) e in
    int_takes word z (h.1 ∙ sym h.2)

pub end_takes : (word : List ℕ) (end : Option ℤ) → slice_end_of word ≡ Some end → IsEnd word end
end_takes word end e = end_by (bytes_eq word (95 ∷ [])) word end refl e

not_missing : (t : Bool) (word : List ℕ) (z : ℤ) → bytes_eq word (95 ∷ []) ≡ t → int_of word ≡ Some z → t ≡ false
unfolding int_of
not_missing true word z is e =
    let read : int_of (95 ∷ []) ≡ Some z = sym (ap int_of ((bytes_eq-Decides word (95 ∷ [])).0 is)) ∙ e in absurd cc
not_missing false word z is e = refl

pub end_again : (word : List ℕ) (end : Option ℤ) → IsEnd word end → slice_end_of word ≡ Some end
end_again word None h = ap slice_end_of h
end_again word (Some z) h =
    let read : int_of word ≡ Some z = int_again word z h in
    let there : bytes_eq word (95 ∷ []) ≡ false = not_missing (bytes_eq word (95 ∷ [])) word z refl read in
    rw (there, read) refl
