use Rattle.std.proofs.Common.{◌≡◌, ◌++◌, length, arith, ap}
use Rattle.acap_lexer.proofs.Places.{value_push}
use Rattle.acap_lexer.proofs.draft.Draft.push.Goals as goal

pub returns : goal.returns
returns c =
    let start : c.len-start.result ≡ length c.self.inside.text.items = omega (arith, c.len-start.ensures, c.self.inside.text.ok) in
    let stop : c.len-end.result ≡ length (c.self.inside.text.items ++ c.args.value.now) = omega (arith, c.len-end.ensures, c.extend_from_slice.new.self.ok, ap length c.in_ok-extend_from_slice.ensures.items) in
    rw (c.in_ok-push_copied.ensures.ok, c.in_ok-extend_from_slice.ensures.items, ← c.self.view_is) (value_push _ _ _ _ _ _ _ _ c.self.invariant start stop)
