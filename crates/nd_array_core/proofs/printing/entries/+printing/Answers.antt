use Rattle.nd_array_core.proofs.NamesFromOtherCrates.{rules, arith, subst, Some, codes, length, ◌≡◌, ◌+◌, ◌-◌, ◌++◌, ◌==◌, ℕ, suc, List, [], Option, if◌then◌else◌, FormatSpec, DisplaysOnOk, DisplaysStyledOnOk, formatter_spec, option_append}
use Rattle.nd_array_core.specs.ArrayMeaning.{Meaning, meaning_of, shape_of}
use Rattle.nd_array_core.specs.printing.ArrayTexts.{axes_text, between_entries, entries_of, entry_of, first_at, item_of, run_of_entries, separator_text}
use Rattle.nd_array_core.proofs.printing_lemmas.TextsInTurn.{run_step, shows_more, shows_then, shows_well, styled_more, styled_then, styled_well}
use Rattle.nd_array_core.proofs.printing.entries.+printing.Goals as goal

pub write_item-returns-clause-writes : goal.write_item-returns-clause-writes
write_item-returns-clause-writes g bound c =
    let took = g.W.Write.write_str_gives in
    let shown = g.P.WritesElement.text_of in
    let m : Meaning _ = meaning_of c.args.view.now in
    let depth : ℕ = c.args.depth + 1 in
    let inner : ℕ = length m.shape - 1 in
    let before : ℕ → Option (List ℕ) = λ n. Some (if c.args.k == 0 then [] else separator_text depth n) in
    let number : length (shape_of c.part_at.result) ≡ inner = omega (arith, c.part_at.ensures.fewer) in
    let same : axes_text shown c.args.whole depth (length (shape_of c.part_at.result)) (meaning_of c.part_at.result) ≡ axes_text shown c.args.whole depth inner (first_at m c.args.k) = λ t. axes_text shown c.args.whole depth (number t) (c.part_at.ensures.meaning t) in
    let P : Option (List ℕ) → Type 0 = λ o. DisplaysOnOk took c.write_before.new.f c.write_axes.result o c.write_axes.new.f in
    let Q : ℕ → Type 0 = λ n. DisplaysOnOk took c.args.f.now c.write_before.result (before (n - 1)) c.write_before.new.f in
    shows_then took (before inner) (axes_text shown c.args.whole depth inner (first_at m c.args.k)) c.args.f.now c.write_before.new.f c.write_axes.new.f c.write_before.result c.write_axes.result
    (subst Q c.ndim.ensures.value c.write_before.ensures.writes) (search rules)
    (subst P same c.write_axes.ensures.writes)

pub write_run-loop-k-preserved : goal.write_run-loop-k-preserved
write_run-loop-k-preserved g bound c =
    let took = g.W.Write.write_str_gives in
    let m : Meaning _ = meaning_of c.args.view.now in
    let shown = g.P.WritesElement.text_of in
    let styled : FormatSpec → _ → Option (List ℕ) = g.P.WritesElement.styled_text_of in
    let now : FormatSpec = formatter_spec c.args.f.now in
    let run = run_of_entries shown c.args.whole c.args.depth m in
    let item = item_of shown c.args.whole c.args.depth m in
    let styled_item : FormatSpec → Option (List ℕ) = λ s. item_of (styled s) c.args.whole c.args.depth m c.loop-k.k in (
      rw (run_step (between_entries shown c.args.whole c.args.depth m) (entry_of shown c.args.whole c.args.depth m) c.args.from c.loop-k.k (search rules))
          (shows_more took (run c.args.from (c.loop-k.k - c.args.from)) (item c.loop-k.k) c.args.f.now c.loop-k.f c.write_item.new.f c.loop-k.invariant.0
          (shows_well took (item c.loop-k.k) c.loop-k.f c.write_item.new.f c.write_item.result c.write_item.ensures.writes (search rules))),
      rw (run_step (between_entries (styled now) c.args.whole c.args.depth m) (entry_of (styled now) c.args.whole c.args.depth m) c.args.from c.loop-k.k (search rules))
          (styled_more took (run_of_entries (styled now) c.args.whole c.args.depth m c.args.from (c.loop-k.k - c.args.from)) styled_item c.args.f.now c.loop-k.f c.write_item.new.f c.loop-k.invariant.1
          (styled_well took (styled_item (formatter_spec c.loop-k.f)) c.loop-k.f c.write_item.new.f c.write_item.result c.write_item.ensures.styled (search rules))),
    )

pub write_ends-returns-clause-writes : goal.write_ends-returns-clause-writes
write_ends-returns-clause-writes g bound c =
    let took = g.W.Write.write_str_gives in
    let shown = g.P.WritesElement.text_of in
    let m : Meaning _ = meaning_of c.args.view.now in
    let run = run_of_entries shown c.args.whole c.args.depth m in
    let dots : ℕ → Option (List ℕ) = λ n. Some (separator_text (c.args.depth + 1) n ++ codes "...") in
    let inner : ℕ = length m.shape - 1 in
    let first : c.args.edge - 0 ≡ c.args.edge = omega arith in
    let last : c.args.count - (c.args.count - c.args.edge) ≡ c.args.edge = omega (arith, c.requires.edge) in
    let P : ℕ → Type 0 = λ n. DisplaysOnOk took c.args.f.now c.write_run.result (run 0 n) c.write_run.new.f in
    let Q : ℕ → Type 0 = λ n. DisplaysOnOk took c.write_run.new.f c.write_dots.result (dots (n - 1)) c.write_dots.new.f in
    let R : ℕ → Type 0 = λ n. DisplaysOnOk took c.write_dots.new.f c.write_run-2.result (run (c.args.count - c.args.edge) n) c.write_run-2.new.f in
    shows_then took (run 0 c.args.edge) (option_append (dots inner) (run (c.args.count - c.args.edge) c.args.edge)) c.args.f.now c.write_run.new.f c.write_run-2.new.f c.write_run.result c.write_run-2.result (subst P first c.write_run.ensures.writes) (search rules)
    (shows_then took (dots inner) (run (c.args.count - c.args.edge) c.args.edge) c.write_run.new.f c.write_dots.new.f c.write_run-2.new.f c.write_dots.result c.write_run-2.result (subst Q c.ndim.ensures.value c.write_dots.ensures.writes) (search rules)
    (subst R last c.write_run-2.ensures.writes))

pub write_axes-returns-clause-writes : goal.write_axes-returns-clause-writes
write_axes-returns-clause-writes g bound c =
    let took = g.W.Write.write_str_gives in
    let shown = g.P.WritesElement.text_of in
    let m : Meaning _ = meaning_of c.args.view.now in
    let inner : ℕ = length m.shape - 1 in
    let entries : Option (List ℕ) = entries_of shown c.args.whole c.args.depth m in
    let more : suc inner ≡ length m.shape = omega (arith, c.if-ndim-eq0.false, c.ndim.ensures.value) in
    let P : ℕ → Type 0 = λ n. DisplaysOnOk took c.args.f.now c.write_str-2.result (axes_text shown c.args.whole c.args.depth n m) c.write_str-2.new.self in
    subst P more
    (shows_then took (Some (codes "[")) (option_append entries (Some (codes "]"))) c.args.f.now c.write_str.new.self c.write_str-2.new.self c.write_str.result c.write_str-2.result c.write_str.ensures.writes (search rules)
    (shows_then took entries (Some (codes "]")) c.write_str.new.self c.write_entries.new.f c.write_str-2.new.self c.write_entries.result c.write_str-2.result c.write_entries.ensures.writes (search rules) c.write_str-2.ensures.writes))

pub write_item-returns-clause-styled : goal.write_item-returns-clause-styled
write_item-returns-clause-styled g bound c =
    let took = g.W.Write.write_str_gives in
    let styled = g.P.WritesElement.styled_text_of in
    let m : Meaning _ = meaning_of c.args.view.now in
    let depth : ℕ = c.args.depth + 1 in
    let inner : ℕ = length m.shape - 1 in
    let before : ℕ → Option (List ℕ) = λ n. Some (if c.args.k == 0 then [] else separator_text depth n) in
    let entry : FormatSpec → Option (List ℕ) = λ s. axes_text (styled s) c.args.whole depth inner (first_at m c.args.k) in
    let number : length (shape_of c.part_at.result) ≡ inner = omega (arith, c.part_at.ensures.fewer) in
    let now : FormatSpec = formatter_spec c.write_before.new.f in
    let same : axes_text (styled now) c.args.whole depth (length (shape_of c.part_at.result)) (meaning_of c.part_at.result) ≡ entry now = λ t. axes_text (styled now) c.args.whole depth (number t) (c.part_at.ensures.meaning t) in
    let P : Option (List ℕ) → Type 0 = λ o. DisplaysStyledOnOk took c.write_before.new.f c.write_axes.result o c.write_axes.new.f in
    let Q : ℕ → Type 0 = λ n. DisplaysStyledOnOk took c.args.f.now c.write_before.result (before (n - 1)) c.write_before.new.f in
    styled_then took (before inner) entry c.args.f.now c.write_before.new.f c.write_axes.new.f c.write_before.result c.write_axes.result
    (subst Q c.ndim.ensures.value c.write_before.ensures.styled) (search rules)
    (subst P same c.write_axes.ensures.styled)

pub write_ends-returns-clause-styled : goal.write_ends-returns-clause-styled
write_ends-returns-clause-styled g bound c =
    let took = g.W.Write.write_str_gives in
    let styled = g.P.WritesElement.styled_text_of in
    let m : Meaning _ = meaning_of c.args.view.now in
    let run : FormatSpec → ℕ → ℕ → Option (List ℕ) = λ s. run_of_entries (styled s) c.args.whole c.args.depth m in
    let dots : ℕ → Option (List ℕ) = λ n. Some (separator_text (c.args.depth + 1) n ++ codes "...") in
    let inner : ℕ = length m.shape - 1 in
    let start : ℕ = c.args.count - c.args.edge in
    let first : c.args.edge - 0 ≡ c.args.edge = omega arith in
    let last : c.args.count - (c.args.count - c.args.edge) ≡ c.args.edge = omega (arith, c.requires.edge) in
    let P : ℕ → Type 0 = λ n. DisplaysStyledOnOk took c.args.f.now c.write_run.result (run (formatter_spec c.args.f.now) 0 n) c.write_run.new.f in
    let Q : ℕ → Type 0 = λ n. DisplaysStyledOnOk took c.write_run.new.f c.write_dots.result (dots (n - 1)) c.write_dots.new.f in
    let R : ℕ → Type 0 = λ n. DisplaysStyledOnOk took c.write_dots.new.f c.write_run-2.result (run (formatter_spec c.write_dots.new.f) start n) c.write_run-2.new.f in
    styled_then took (run (formatter_spec c.args.f.now) 0 c.args.edge) (λ s. option_append (dots inner) (run s start c.args.edge)) c.args.f.now c.write_run.new.f c.write_run-2.new.f c.write_run.result c.write_run-2.result (subst P first c.write_run.ensures.styled) (search rules)
    (styled_then took (dots inner) (λ s. run s start c.args.edge) c.write_run.new.f c.write_dots.new.f c.write_run-2.new.f c.write_dots.result c.write_run-2.result (subst Q c.ndim.ensures.value c.write_dots.ensures.styled) (search rules)
    (subst R last c.write_run-2.ensures.styled))

pub write_axes-returns-clause-styled : goal.write_axes-returns-clause-styled
write_axes-returns-clause-styled g bound c =
    let took = g.W.Write.write_str_gives in
    let styled = g.P.WritesElement.styled_text_of in
    let m : Meaning _ = meaning_of c.args.view.now in
    let inner : ℕ = length m.shape - 1 in
    let entries : FormatSpec → Option (List ℕ) = λ s. entries_of (styled s) c.args.whole c.args.depth m in
    let more : suc inner ≡ length m.shape = omega (arith, c.if-ndim-eq0.false, c.ndim.ensures.value) in
    let P : ℕ → Type 0 = λ n. DisplaysStyledOnOk took c.args.f.now c.write_str-2.result (axes_text (styled (formatter_spec c.args.f.now)) c.args.whole c.args.depth n m) c.write_str-2.new.self in
    subst P more
    (styled_then took (Some (codes "[")) (λ s. option_append (entries s) (Some (codes "]"))) c.args.f.now c.write_str.new.self c.write_str-2.new.self c.write_str.result c.write_str-2.result c.write_str.ensures.styled (search rules)
    (styled_then took (entries (formatter_spec c.write_str.new.self)) (λ _. Some (codes "]")) c.write_str.new.self c.write_entries.new.f c.write_str-2.new.self c.write_entries.result c.write_str-2.result c.write_entries.ensures.styled (search rules) c.write_str-2.ensures.styled))
