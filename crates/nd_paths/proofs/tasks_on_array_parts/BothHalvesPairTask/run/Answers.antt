use Rattle.std.proofs.Common.{◌≡◌, ◌∙◌, sym, ap, subst}
use Rattle.nd_array_core.specs.ArrayMeaning.{meaning_of, placed_array}
use Rattle.nd_array_core.specs.ArrayInStorage.{found_at}
use Rattle.nd_array_core.specs.scoped.ViewTasks.{lent_view, view_left}
use Rattle.nd_paths.specs.CallbacksOnViewsAndSplits.{meaning_placed, meaning_left}
use Rattle.nd_paths.proofs.ArrayAfterPartChanged.{alike, said_of}
use Rattle.nd_paths.proofs.tasks_on_array_parts.BothHalvesPairTask.run.Goals as goal

pub run-answer-requires : goal.run-answer-requires
run-answer-requires g c =
    let lengths = g.D.Dimension.lengths in
    let strides = g.D.Strides.StrideList.strides_of in
    let pre = g.K.PairOfArraysTask.pre c.args.self.task in
    let v = lent_view lengths strides c.args.one in
    let v' = lent_view lengths strides c.args.two in
    let lower = meaning_of c.into_dyn-lower.result in
    let upper = meaning_of c.into_dyn-upper.result in
    let one : lower ≡ meaning_placed v = alike (meaning_placed v) lower (c.into_dyn-lower.ensures.whole.0.0 ∙ c.into_view.ensures.shape) (λ i. c.into_dyn-lower.ensures.whole.0.2 i ∙ c.into_view.ensures.elements i) in
    let two : upper ≡ meaning_placed v' = alike (meaning_placed v') upper (c.into_dyn-upper.ensures.whole.0.0 ∙ c.into_view-2.ensures.shape) (λ i. c.into_dyn-upper.ensures.whole.0.2 i ∙ c.into_view-2.ensures.elements i) in
    subst (λ m. pre lower m) (sym two) (subst (λ m. pre m (meaning_placed v')) (sym one) c.requires.pre)

pub returns-clause-done : goal.returns-clause-done
returns-clause-done g c =
    let lengths = g.D.Dimension.lengths in
    let strides = g.D.Strides.StrideList.strides_of in
    let post = g.K.PairOfArraysTask.post c.args.self.task in
    let v = lent_view lengths strides c.args.one in
    let v' = lent_view lengths strides c.args.two in
    let w = view_left lengths strides c.args.one c.into_storage.result in
    let w' = view_left lengths strides c.args.two c.into_storage-2.result in
    let lower = meaning_of c.into_dyn-lower.result in
    let upper = meaning_of c.into_dyn-upper.result in
    let lower' = meaning_of c.run-answer.new.one in
    let upper' = meaning_of c.run-answer.new.two in
    let b = placed_array c.run-answer.new.one in
    let b' = placed_array c.run-answer.new.two in
    let frame = c.run-answer.ensures.one_frame in
    let frame' = c.run-answer.ensures.two_frame in
    let shape = c.into_dyn-lower.ensures.whole.0.0 ∙ c.into_view.ensures.shape in
    let shape' = c.into_dyn-upper.ensures.whole.0.0 ∙ c.into_view-2.ensures.shape in
    let stored : w.stored ≡ b.stored = ap (λ s. (view_left lengths strides c.args.one s).stored) c.into_storage.ensures.same in
    let stored' : w'.stored ≡ b'.stored = ap (λ s. (view_left lengths strides c.args.two s).stored) c.into_storage-2.ensures.same in
    let one : lower ≡ meaning_placed v = alike (meaning_placed v) lower shape (λ i. c.into_dyn-lower.ensures.whole.0.2 i ∙ c.into_view.ensures.elements i) in
    let two : upper ≡ meaning_placed v' = alike (meaning_placed v') upper shape' (λ i. c.into_dyn-upper.ensures.whole.0.2 i ∙ c.into_view-2.ensures.elements i) in
    let left : lower' ≡ meaning_left v w =
    alike (meaning_left v w) lower' (frame.0 ∙ shape)
    (λ i. c.elements_have_places-3.ensures.elements i ∙ (ap (found_at b.stored) (frame.2 i ∙ (c.into_dyn-lower.ensures.whole.0.3 i ∙ c.into_view.ensures.places i)) ∙ sym (ap (λ s. found_at s (v.place i)) stored))) in
    let left' : upper' ≡ meaning_left v' w' =
    alike (meaning_left v' w') upper' (frame'.0 ∙ shape')
    (λ i. c.elements_have_places-4.ensures.elements i ∙ (ap (found_at b'.stored) (frame'.2 i ∙ (c.into_dyn-upper.ensures.whole.0.3 i ∙ c.into_view-2.ensures.places i)) ∙ sym (ap (λ s. found_at s (v'.place i)) stored'))) in
    said_of (λ m n o q. post m n o q c.run-answer.result) one two left left' c.run-answer.ensures.done
