use Rattle.std.proofs.Common.{sym, ◌∙◌}
use Rattle.acap_lexer.specs.declared.lexed.Lexed.TheVariants.{More, Plus}
use Rattle.acap_lexer.proofs.Asking.{Next}
use Rattle.acap_lexer.proofs.AskLoop.{continues, fewer, lacks, takes}
use Rattle.acap_lexer.proofs.pieces.ask.Goals as goal

pub returns-in-More : goal.returns-in-More
returns-in-More c =
    let n : Next c.args.mode c.continuations.lexer More c.next.new.self = (sym c.in-More.is ∙ c.in_ok-item.ensures.answer, c.in_ok-item.ensures.held) in
    lacks _ _ _ c.continuations.lexer _ _ c.continuations.invariant n

pub continuations-smaller : goal.continuations-smaller
continuations-smaller c =
    let n : Next c.args.mode c.continuations.lexer Plus c.next.new.self = (sym c.in-Plus.is ∙ c.in_ok-item.ensures.answer, c.in_ok-item.ensures.held) in
    fewer c.args.mode c.continuations.lexer c.next.new.self c.continuations.invariant.going n

pub continuations-preserved : goal.continuations-preserved
continuations-preserved c =
    let n : Next c.args.mode c.continuations.lexer Plus c.next.new.self = (sym c.in-Plus.is ∙ c.in_ok-item.ensures.answer, c.in_ok-item.ensures.held) in
    rw c.in_ok-push-in-Plus.ensures.items (continues _ _ _ c.continuations.lexer c.next.new.self _ c.continuations.invariant n)

pub returns-in_default : goal.returns-in_default
returns-in_default c =
    rw c.in_ok-push-in_default.ensures.items
    (takes c.in_ok-item.item _ _ _ _ c.continuations.lexer c.next.new.self _ c.how_whole-asked.ensures c.in_default.not-Plus c.in_default.not-More c.continuations.invariant (c.in_ok-item.ensures.answer, c.in_ok-item.ensures.held))
