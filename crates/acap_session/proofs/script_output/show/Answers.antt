use Rattle.acap_session.proofs.Piping.{some_octets, none_left}
use Rattle.acap_session.proofs.ScriptOutput.{one_more, all_parts, not_empty}
use Rattle.acap_session.proofs.script_output.show.Goals as goal

pub parts-preserved : goal.parts-preserved
parts-preserved c = one_more c.args.seat c.args.said.now c.parts.rest.now c.first_part.result.0.now c.first_part.result.1.now c.parts.out.items c.append_part.new.out.items c.parts.invariant (not_empty c.parts.rest.now (some_octets c.parts.rest.now c.parts-test.ensures)) c.first_part.ensures.parts c.in_ok-append_part.ensures

pub returns : goal.returns
returns c = all_parts c.args.seat c.args.said.now c.parts.rest.now c.parts.out.items c.parts.invariant (none_left c.parts.rest.now c.parts-test.ensures)
