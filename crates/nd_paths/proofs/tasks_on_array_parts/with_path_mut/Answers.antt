use Rattle.std.proofs.Common.{◌≡◌, ◌∙◌, sym, ap, subst}
use Rattle.nd_array_core.specs.ArrayMeaning.{meaning_of}
use Rattle.nd_array_core.specs.ArrayInStorage.{found_at}
use Rattle.nd_paths.specs.CallbacksOnViewsAndSplits.{AsksAlong, IsDoneAlong, meaning_placed, meaning_left}
use Rattle.nd_paths.proofs.ArrayAfterPartChanged.{alike}
use Rattle.nd_paths.proofs.tasks_on_array_parts.with_path_mut.Goals as goal

pub with_view_mut-requires : goal.with_view_mut-requires
with_view_mut-requires g c = λ v is. subst (λ m. AsksAlong (g.P.ArrayPath.leads c.args.path) (g.K.ArrayTask.pre c.args.task) m) (sym (alike (meaning_of c.args.array.now) (meaning_placed v) is.same_shape is.same_element)) c.requires

pub returns-clause-done : goal.returns-clause-done
returns-clause-done g c =
    let p = g.P.ArrayPath.leads c.args.path in
    let post = g.K.ArrayTask.post c.args.task in
    let old = meaning_of c.args.array.now in
    let new = meaning_of c.with_view_mut.new.self in
    let d = c.with_view_mut.ensures.done in
    let frame = c.with_view_mut.ensures.frame in
    let v = d.0 in
    let w = d.1 in
    let start : meaning_placed v ≡ old = alike old (meaning_placed v) d.2.same_shape d.2.same_element in
    let left : meaning_left v w ≡ new = alike new (meaning_left v w) (d.2.same_shape ∙ sym frame.0) (λ i. ap (found_at w.stored) (d.2.same_place i ∙ (sym (frame.2 i) ∙ sym (d.3.same_place i))) ∙ d.3.same_element i) in
    subst (λ m. IsDoneAlong p post old m c.with_view_mut.result) left (subst (λ m. IsDoneAlong p post m (meaning_left v w) c.with_view_mut.result) start d.4)
