use Rattle.std.proofs.Common.{sym, ◌∙◌}
use Rattle.nd_npy_run.proofs.StepTexts.{viewed_front, chosen_front, lengths_front, choice_fails, lengths_fail, step_fails}
use Rattle.nd_npy_run.proofs.steps.step_words.split_npy_step.Goals as goal

pub returns-in-Ok : goal.returns-in-Ok
returns-in-Ok c = chosen_front _ _ _ c.in-Some.ensures.words _ _ _ (sym c.of.ensures ∙ c.in-Select.is) c.in-Ok.ensures

pub returns-in-Err : goal.returns-in-Err
returns-in-Err c = choice_fails _ _ _ c.in-Some.ensures.words c.in-Err.fault (sym c.of.ensures ∙ c.in-Select.is) c.in-Err.ensures

pub returns-in-Ok-split_list : goal.returns-in-Ok-split_list
returns-in-Ok-split_list c = lengths_front _ _ _ c.in-Some.ensures.words _ _ (sym c.of.ensures ∙ c.in-Reshape.is) c.in-Ok-split_list.ensures

pub returns-in-Err-split_list : goal.returns-in-Err-split_list
returns-in-Err-split_list c = lengths_fail _ _ _ c.in-Some.ensures.words c.in-Err-split_list.fault (sym c.of.ensures ∙ c.in-Reshape.is) c.in-Err-split_list.ensures

pub returns-in-Ok-split_step : goal.returns-in-Ok-split_step
returns-in-Ok-split_step c = viewed_front _ _ _ c.in-Ok-split_step.ensures

pub returns-in-Err-split_step : goal.returns-in-Err-split_step
returns-in-Err-split_step c = step_fails _ _ _ c.in-Some.ensures.words c.in-Err-split_step.fault (λ is. c.in_default.not-Select (c.of.ensures ∙ is)) (λ is. c.in_default.not-Reshape (c.of.ensures ∙ is)) c.in-Err-split_step.ensures
