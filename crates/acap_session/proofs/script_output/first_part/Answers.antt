use Rattle.std.proofs.Common.{length, ◌∙◌, arith}
use Rattle.std.proofs.lemmas.List.{take_all, drop_all}
use Rattle.acap_session.proofs.ScriptOutput.{found, not_found}
use Rattle.acap_session.proofs.script_output.first_part.Goals as goal

pub returns-in-Some-clause-parts : goal.returns-in-Some-clause-parts
returns-in-Some-clause-parts c = rw (found c.args.said.now c.in-Some.place c.in-Some.ensures) (c.split_at.ensures.front, c.split_at-in-Some.ensures.back)

pub returns-in-None-clause-parts : goal.returns-in-None-clause-parts
returns-in-None-clause-parts c =
    let said = c.args.said.now in
    rw (not_found said c.in-None.ensures) (c.split_at-in-None.ensures.front ∙ take_all (length said) said (omega arith), c.split_at-in-None.ensures.back ∙ drop_all (length said) said (omega arith))
