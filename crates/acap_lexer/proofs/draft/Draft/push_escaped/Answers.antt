use Rattle.std.proofs.Common.{◌≡◌, length, arith}
use Rattle.acap_lexer.proofs.Places.{tokens_grows, escaped_adds, pushed_grows}
use Rattle.acap_lexer.specs.Part.{with_token}
use Rattle.acap_lexer.specs.Reading.{as_string, string_at}
use Rattle.std.proofs.Common.{◌∷◌, Ok}
use Rattle.acap_lexer.proofs.draft.Draft.push_escaped.Goals as goal

-- what the call adds
adds : (c : goal.In_ok-push_copied) → with_token c.args.self.now.tokens c.args.end (34 ∷ c.args.rest.now) (as_string (string_at c.args.rest.now)) ≡ Ok (c.push_copied.new.self.tokens, c.in_ok-left.left.now)
adds c =
    let start : c.len-value_start.result ≡ length c.self.inside.text.items = omega (arith, c.len-value_start.ensures, c.self.inside.text.ok) in
    let stop : c.len-value_end.result ≡ length c.string_at.new.text.items = omega (arith, c.len-value_end.ensures, c.string_at.new.text.ok) in
    rw (c.in_ok-push_copied.ensures.ok, ← c.self.view_is) (escaped_adds _ _ _ _ _ _ _ _ _ c.self.invariant start stop c.in_ok-left.ensures.gives)

pub returns-clause-gives : goal.returns-clause-gives
returns-clause-gives c = adds c

pub returns-clause-grows : goal.returns-clause-grows
returns-clause-grows c = pushed_grows _ _ _ (34 ∷ c.args.rest.now) _ _ (adds c)

pub returns-in_err-left-clause-grows : goal.returns-in_err-left-clause-grows
returns-in_err-left-clause-grows c =
    rw (← c.self.view_is) (tokens_grows _ _ _ c.in_err-left.ensures.grows c.self.invariant)

pub returns-in_err-push_copied-clause-grows : goal.returns-in_err-push_copied-clause-grows
returns-in_err-push_copied-clause-grows c =
    rw (c.in_err-push_copied.ensures.err, ← c.self.view_is) (tokens_grows _ _ _ c.in_ok-left.ensures.grows c.self.invariant)
