-- Printing one text after another.
use Rattle.std.proofs.Common.{◌≡◌, ℕ, map, ◌+◌, ◌<◌, get_or, Bool, true, false, List, [], ◌∷◌, ◌++◌, ◌||◌, Option, take, drop, length, ◌-◌, ◌≤◌, take-append-drop, refl, sym, ap, subst, ◌∙◌, append_assoc, append-nil}
use Rattle.std.proofs.lemmas.List.{take_rest, take_more, take_all}
use Rattle.std.proofs.lemmas.List.Concat.{flat_map-append}
use Rattle.std.specs.List.{flat_map}
use Rattle.std.specs.Io.KnownBytes.{Appends}
use Rattle.std.proofs.KnownBytes.{Appends-nil, Appends-trans}
use Rattle.nd_text.specs.declared.watched_streams.Watched.{Watched}
use Rattle.nd_text.specs.WatchedReadersAndWriters.{watched_inner, watched_failed, watched_retried, watched_flushes, after_write}
use Rattle.nd_text.specs.BufferedPrinting.{TakesText, Writes, Puts}

-- taking nothing
takes_nothing : {W : Type 0} {contents : W → Option (List ℕ)} (old : Watched W) → TakesText contents old old []
takes_nothing {W} {contents} old = record {
  idle = λ _. refl;
  whole_text = λ _. Appends-nil (contents (watched_inner old));
  part = ([], [], refl, Appends-nil (contents (watched_inner old)));
  stops = refl;
}

-- taking one text and then another is taking both
then_by : {W : Type 0} {contents : W → Option (List ℕ)} {old mid new : Watched W} {s t : List ℕ} (b : Bool) → watched_failed mid ≡ b → TakesText contents old mid s → TakesText contents mid new t → TakesText contents old new (s ++ t)
then_by {W} {contents} {old} {mid} {new} {s} {t} true failed p q =
    let same : new ≡ mid = q.idle failed in
    record {
      idle = λ was. same ∙ p.idle was;
      whole_text = λ ok. let no : true ≡ false = sym failed ∙ ap watched_failed (sym same) ∙ ok in absurd cc;
      part = (p.part.0, p.part.1 ++ t, ap (λ (l : List ℕ). l ++ t) p.part.2 ∙ append_assoc p.part.0 p.part.1 t, subst (λ (w : Watched W). Appends (contents (watched_inner old)) (contents (watched_inner w)) p.part.0) (sym same) p.part.3);
      stops = q.stops ∙ p.stops;
    }
then_by {W} {contents} {old} {mid} {new} {s} {t} false fine p q =
    record {
      idle = λ was. let no : true ≡ false = sym was ∙ ap watched_failed (sym (p.idle was)) ∙ fine in absurd cc;
      whole_text = λ ok. Appends-trans _ _ _ s t (p.whole_text fine) (q.whole_text ok);
      part = (s ++ q.part.0, q.part.1, ap (λ (l : List ℕ). s ++ l) q.part.2 ∙ sym (append_assoc s q.part.0 q.part.1), Appends-trans _ _ _ s q.part.0 (p.whole_text fine) q.part.3);
      stops = q.stops ∙ p.stops;
    }

pub takes_then : {W : Type 0} {contents : W → Option (List ℕ)} {old mid new : Watched W} {s t : List ℕ} → TakesText contents old mid s → TakesText contents mid new t → TakesText contents old new (s ++ t)
takes_then {W} {contents} {old} {mid} {new} {s} {t} p q = then_by (watched_failed mid) refl p q

-- writing nothing
pub writes_nothing : {W : Type 0} {contents : W → Option (List ℕ)} (old : Watched W) → Writes contents old old []
writes_nothing old = record { takes = takes_nothing old; unflushed = λ never. never }

-- writing one text and then another is writing both
pub writes_then : {W : Type 0} {contents : W → Option (List ℕ)} {old mid new : Watched W} {s t : List ℕ} → Writes contents old mid s → Writes contents mid new t → Writes contents old new (s ++ t)
writes_then p q = record { takes = takes_then p.takes q.takes; unflushed = λ never. q.unflushed (p.unflushed never) }

-- a write that took some bytes
pub writes_taken : {W : Type 0} {contents : W → Option (List ℕ)} (old new : Watched W) (count : ℕ) (piece : List ℕ) → watched_failed old ≡ false
    → Appends (contents (watched_inner old)) (contents (watched_inner new)) (take count piece) → watched_retried new ≡ (watched_failed old || watched_retried old) → watched_flushes new ≡ after_write (watched_flushes old) → Writes contents old new (take count piece)
writes_taken old new count piece fine bytes retried flushes = record {
  takes = record {
    idle = λ was. let no : true ≡ false = sym was ∙ fine in absurd cc;
    whole_text = λ _. bytes;
    part = (take count piece, [], sym (append-nil (take count piece)), bytes);
    stops = retried ∙ ap (λ (b : Bool). b || watched_retried old) fine;
  };
  unflushed = λ never. flushes ∙ ap after_write never;
}

-- the text is what was put, what is taken now, and what is left then
pub cut_off : (text front rest : List ℕ) (n : ℕ) → text ≡ front ++ rest → text ≡ (front ++ take n rest) ++ take (length rest - n) (drop n rest)
cut_off text front rest n e =
    let left : take (length rest - n) (drop n rest) ≡ drop n rest = take_rest rest n in
    rw left (e ∙ ap (λ (l : List ℕ). front ++ l) (sym (take-append-drop n rest)) ∙ sym (append_assoc front (take n rest) (drop n rest)))

-- ---- through the page

-- printing nothing
pub puts_nothing : {W : Type 0} {contents : W → Option (List ℕ)} (old : Watched W) (held : List ℕ) → Puts contents old held old held []
puts_nothing {W} {contents} old held = record {
  idle = λ _. refl;
  part = ([], held, append-nil held, Appends-nil (contents (watched_inner old)), λ _. refl);
  unflushed = λ never. never;
  stops = refl;
}

-- a text that found room on the page
pub puts_held : {W : Type 0} {contents : W → Option (List ℕ)} (old : Watched W) (held left text : List ℕ) → left ≡ held ++ text → Puts contents old held old left text
puts_held {W} {contents} old held left text e = record {
  idle = λ _. refl;
  part = ([], held ++ text, refl, Appends-nil (contents (watched_inner old)), λ _. sym e);
  unflushed = λ never. never;
  stops = refl;
}

-- all that waited, and the text after it, was written
written_by : {W : Type 0} {contents : W → Option (List ℕ)} {old new : Watched W} (b : Bool) (held text : List ℕ) → watched_failed new ≡ b → TakesText contents old new (held ++ text)
    → (front rest : List ℕ) × (held ++ text ≡ front ++ rest) × Appends (contents (watched_inner old)) (contents (watched_inner new)) front × (watched_failed new ≡ false → rest ≡ [])
written_by true held text failed p = (p.part.0, p.part.1, p.part.2, p.part.3, λ ok. let no : true ≡ false = sym failed ∙ ok in absurd cc)
written_by false held text fine p = (held ++ text, [], sym (append-nil (held ++ text)), p.whole_text fine, λ _. refl)

pub puts_written : {W : Type 0} {contents : W → Option (List ℕ)} {old new : Watched W} (held text : List ℕ) → Writes contents old new (held ++ text) → Puts contents old held new [] text
puts_written {W} {contents} {old} {new} held text p = record {
  idle = p.takes.idle;
  part = written_by (watched_failed new) held text refl p.takes;
  unflushed = p.unflushed;
  stops = p.takes.stops;
}

-- printing one text and then another is printing both
joined_by : {W : Type 0} {contents : W → Option (List ℕ)} {old mid new : Watched W} {held between left s t : List ℕ} (b : Bool) → watched_failed mid ≡ b → Puts contents old held mid between s → Puts contents mid between new left t
    → (front rest : List ℕ) × (held ++ (s ++ t) ≡ front ++ rest) × Appends (contents (watched_inner old)) (contents (watched_inner new)) front × (watched_failed new ≡ false → rest ≡ left)
joined_by {W} {contents} {old} {mid} {new} {held} {between} {left} {s} {t} true failed p q =
    let same : new ≡ mid = q.idle failed in
    let parts : held ++ (s ++ t) ≡ p.part.0 ++ (p.part.1 ++ t) = sym (append_assoc held s t) ∙ ap (λ (l : List ℕ). l ++ t) p.part.2 ∙ append_assoc p.part.0 p.part.1 t in (
      p.part.0,
      p.part.1 ++ t,
      parts,
      subst (λ (w : Watched W). Appends (contents (watched_inner old)) (contents (watched_inner w)) p.part.0) (sym same) p.part.3,
      λ ok. let no : true ≡ false = sym failed ∙ ap watched_failed (sym same) ∙ ok in absurd cc,
    )
joined_by {W} {contents} {old} {mid} {new} {held} {between} {left} {s} {t} false fine p q =
    let parts : held ++ (s ++ t) ≡ (p.part.0 ++ q.part.0) ++ q.part.1 =
    sym (append_assoc held s t) ∙ ap (λ (l : List ℕ). l ++ t) (p.part.2 ∙ ap (λ (l : List ℕ). p.part.0 ++ l) (p.part.4 fine)) ∙ append_assoc p.part.0 between t
    ∙ ap (λ (l : List ℕ). p.part.0 ++ l) q.part.2 ∙ sym (append_assoc p.part.0 q.part.0 q.part.1) in
    (p.part.0 ++ q.part.0, q.part.1, parts, Appends-trans _ _ _ p.part.0 q.part.0 p.part.3 q.part.3, q.part.4)

joined_idle : {W : Type 0} {contents : W → Option (List ℕ)} {old mid new : Watched W} {held between left s t : List ℕ} → Puts contents old held mid between s → Puts contents mid between new left t → watched_failed old ≡ true → new ≡ old
joined_idle p q was = q.idle (ap watched_failed (p.idle was) ∙ was) ∙ p.idle was

pub puts_then : {W : Type 0} {contents : W → Option (List ℕ)} {old mid new : Watched W} {held between left s t : List ℕ} → Puts contents old held mid between s → Puts contents mid between new left t → Puts contents old held new left (s ++ t)
puts_then {W} {contents} {old} {mid} {new} p q = record {
  idle = joined_idle p q;
  part = joined_by (watched_failed mid) refl p q;
  unflushed = λ never. q.unflushed (p.unflushed never);
  stops = q.stops ∙ p.stops;
}

-- what waits at the end is written: then the whole text was taken
taken_by : {W : Type 0} {contents : W → Option (List ℕ)} {old mid new : Watched W} {held text : List ℕ} (b : Bool) → watched_failed mid ≡ b → Puts contents old [] mid held text → TakesText contents mid new held → TakesText contents old new text
taken_by {W} {contents} {old} {mid} {new} {held} {text} true failed p q =
    let same : new ≡ mid = q.idle failed in
    record {
      idle = λ was. same ∙ p.idle was;
      whole_text = λ ok. let no : true ≡ false = sym failed ∙ ap watched_failed (sym same) ∙ ok in absurd cc;
      part = (p.part.0, p.part.1, p.part.2, subst (λ (w : Watched W). Appends (contents (watched_inner old)) (contents (watched_inner w)) p.part.0) (sym same) p.part.3);
      stops = q.stops ∙ p.stops;
    }
taken_by {W} {contents} {old} {mid} {new} {held} {text} false fine p q =
    let parts : text ≡ p.part.0 ++ held = p.part.2 ∙ ap (λ (l : List ℕ). p.part.0 ++ l) (p.part.4 fine) in
    record {
      idle = λ was. let no : true ≡ false = sym was ∙ ap watched_failed (sym (p.idle was)) ∙ fine in absurd cc;
      whole_text = λ ok. subst (Appends (contents (watched_inner old)) (contents (watched_inner new))) (sym parts) (Appends-trans _ _ _ p.part.0 held p.part.3 (q.whole_text ok));
      part = (p.part.0 ++ q.part.0, q.part.1, parts ∙ ap (λ (l : List ℕ). p.part.0 ++ l) q.part.2 ∙ sym (append_assoc p.part.0 q.part.0 q.part.1), Appends-trans _ _ _ p.part.0 q.part.0 p.part.3 q.part.3);
      stops = q.stops ∙ p.stops;
    }

pub all_taken : {W : Type 0} {contents : W → Option (List ℕ)} {old mid new : Watched W} {first held text : List ℕ} → first ≡ [] → Puts contents old first mid held text → TakesText contents mid new held → TakesText contents old new text
all_taken {W} {contents} {old} {mid} {new} {first} {held} {text} e p q = taken_by (watched_failed mid) refl (subst (λ (l : List ℕ). Puts contents old l mid held text) e p) q

-- what waited is written, and then the text waits alone, or is written too
pub puts_next : {W : Type 0} {contents : W → Option (List ℕ)} {old mid : Watched W} (held waits left text : List ℕ) → waits ≡ held → Writes contents old mid waits → left ≡ text → Puts contents old held mid left text
puts_next {W} {contents} {old} {mid} held waits left text e w is = puts_then (puts_written held [] (subst (Writes contents old mid) (e ∙ sym (append-nil held)) w)) (puts_held mid [] left text is)

pub puts_long : {W : Type 0} {contents : W → Option (List ℕ)} {old mid new : Watched W} (held waits left text : List ℕ) → waits ≡ held → Writes contents old mid waits → left ≡ [] → Writes contents mid new text → Puts contents old held new left text
puts_long {W} {contents} {old} {mid} {new} held waits left text e w is v =
    puts_then (puts_written held [] (subst (Writes contents old mid) (e ∙ sym (append-nil held)) w)) (subst (λ (l : List ℕ). Puts contents mid [] new l text) (sym is) (puts_written [] text v))

-- one item more of a list that is printed item by item, in two parts
pub puts_item : {W X : Type 0} {contents : W → Option (List ℕ)} {old mid next new : Watched W} {held one two left s t : List ℕ} (f : X → List ℕ) (xs : List X) (i : ℕ) (d x : X) → i < length xs → x ≡ get_or xs i d → f x ≡ s ++ t
    → Puts contents old held mid one (flat_map f (take i xs)) → Puts contents mid one next two s → Puts contents next two new left t → Puts contents old held new left (flat_map f (take (i + 1) xs))
puts_item {W} {X} {contents} {old} {mid} {next} {new} {held} {one} {two} {left} {s} {t} f xs i d x inside is parts p q r =
    let more : flat_map f (take (i + 1) xs) ≡ flat_map f (take i xs) ++ (s ++ t) =
    ap (flat_map f) (take_more xs i d inside) ∙ flat_map-append f (take i xs) (get_or xs i d ∷ [])
    ∙ ap (λ (y : X). flat_map f (take i xs) ++ flat_map f (y ∷ [])) (sym is)
    ∙ ap (λ (l : List ℕ). flat_map f (take i xs) ++ l) (append-nil (f x) ∙ parts) in
    subst (Puts contents old held new left) (sym more) (puts_then p (puts_then q r))

flat_map-map : {X Y : Type 0} (f : Y → List ℕ) (view : X → Y) (xs : List X) → flat_map f (map view xs) ≡ flat_map (λ x. f (view x)) xs
flat_map-map f view [] = refl
flat_map-map f view (x ∷ xs) = ap (λ (l : List ℕ). f (view x) ++ l) (flat_map-map f view xs)

-- all items are printed
pub puts_listed : {W X Y : Type 0} {contents : W → Option (List ℕ)} {old new : Watched W} {held left : List ℕ} (f : Y → List ℕ) (view : X → Y) (xs : List X) (i : ℕ) → length xs ≤ i → Puts contents old held new left (flat_map (λ x. f (view x)) (take i xs)) → Puts contents old held new left (flat_map f (map view xs))
puts_listed {W} {X} {Y} {contents} {old} {new} {held} {left} f view xs i end p =
    subst (Puts contents old held new left) (ap (flat_map (λ (x : X). f (view x))) (take_all i xs end) ∙ sym (flat_map-map f view xs)) p
