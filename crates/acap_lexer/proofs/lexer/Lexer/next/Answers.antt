use Rattle.std.proofs.Common.{◌+◌, ◌≤◌, length, arith}
use Rattle.std.proofs.lemmas.List.{drop-drop}
use Rattle.acap_lexer.specs.declared.outcomes.Due.TheVariants as dues
use Rattle.acap_lexer.proofs.LexerLaws.{answers_fault, answers_due, keeps_scan}
use Rattle.acap_lexer.proofs.lexer.Lexer.next.Goals as goal

pub advance-requires-clause-sound : goal.advance-requires-clause-sound
advance-requires-clause-sound c = rw (c.split_at.ensures.back, c.deref.ensures.value) (c.turn_to.ensures.sound _ c.self.invariant.sound)

pub advance-requires-clause-reaches : goal.advance-requires-clause-reaches
advance-requires-clause-reaches c = rw (c.split_at.ensures.back, c.deref.ensures.value) (c.turn_to.ensures.reaches _ c.self.invariant.reaches)

pub invariant_of-self : goal.invariant_of-self
invariant_of-self c = record {
  within = c.self.invariant.within;
  sound = c.start.ensures.sound _;
  reaches = c.start.ensures.reaches _;
}

pub invariant_of-self-in-Ok-More : goal.invariant_of-self-in-Ok-More
invariant_of-self-in-Ok-More c =
    keeps_scan _ _ _ _ _ _ c.self.invariant.within c.split_at.ensures.back c.deref.ensures.value (rw c.in-Ok-More.field-0-is at c.in-Ok-More.ensures.scan)

pub invariant_of-self-in-Ok-Plus : goal.invariant_of-self-in-Ok-Plus
invariant_of-self-in-Ok-Plus c =
    keeps_scan _ _ _ _ _ _ c.self.invariant.within c.split_at.ensures.back c.deref.ensures.value (rw c.in-Ok-Plus.field-0-is at c.in-Ok-Plus.ensures.scan)

pub overflow_add-self : goal.overflow_add-self
overflow_add-self c =
    let told = rw c.in-Ok-Plus.field-0-is at c.in-Ok-Plus.ensures.fits in
    omega (arith, told, c.split_at.ensures.back_len, c.deref.ensures.len, c.self.inside.text.small)

inside : (c : goal.After-self-in-Ok-Item-1) → c.self.inside.start + c.in-Ok-Item.taken ≤ length c.self.inside.text.items
inside c =
    let taken = rw c.in-Ok-Item.field-0-is at c.in-Ok-Item.ensures.fits in
    omega (arith, taken, c.split_at.ensures.back_len, c.deref.ensures.len, c.self.inside.text.ok, c.self.invariant.within)

pub overflow_add-self-in-Ok-Item : goal.overflow_add-self-in-Ok-Item
overflow_add-self-in-Ok-Item c = omega (arith, inside c, c.self.inside.text.ok, c.self.inside.text.small)

pub invariant_of-self-in-Ok-Item : goal.invariant_of-self-in-Ok-Item
invariant_of-self-in-Ok-Item c =
    let taken = rw c.in-Ok-Item.field-0-is at c.in-Ok-Item.ensures.fits in
    record {
      within = omega (arith, taken, c.split_at.ensures.back_len, c.deref.ensures.len, c.self.inside.text.ok, c.self.invariant.within);
      sound = c.start-in-Ok-Item.ensures.sound _;
      reaches = c.start-in-Ok-Item.ensures.reaches _;
    }

pub returns-in-Some : goal.returns-in-Some
returns-in-Some c = answers_fault _ _ _ c.in-Some.fault c.self.view_is c.in-Some.is

pub returns-in-Err : goal.returns-in-Err
returns-in-Err c = record { answer = tt; held = tt; err = c.self.view_is }

pub returns-in-Ok-More : goal.returns-in-Ok-More
returns-in-Ok-More c =
    answers_due _ _ _ _ _ _ _ _ _ dues.More c.self.view_is c.in_default.not-Some c.turn_to.ensures.mode c.split_at.ensures.back c.deref.ensures.value
    (rw c.in-Ok-More.field-0-is at c.in-Ok-More.ensures.due)

pub returns-in-Ok-Plus : goal.returns-in-Ok-Plus
returns-in-Ok-Plus c =
    answers_due _ _ _ _ _ _ _ _ _ dues.Plus c.self.view_is c.in_default.not-Some c.turn_to.ensures.mode c.split_at.ensures.back c.deref.ensures.value
    (rw c.in-Ok-Plus.field-0-is at c.in-Ok-Plus.ensures.due)

pub returns-in-Ok-Item : goal.returns-in-Ok-Item
returns-in-Ok-Item c =
    rw (c.fatal_of-self-inside.ensures, ← drop-drop c.in-Ok-Item.taken c.self.inside.start c.self.inside.text.items)
    (answers_due _ _ _ _ _ _ _ _ _ (dues.Item c.in-Ok-Item.lexed c.in-Ok-Item.taken) c.self.view_is c.in_default.not-Some c.turn_to.ensures.mode c.split_at.ensures.back c.deref.ensures.value
    (rw c.in-Ok-Item.field-0-is at c.in-Ok-Item.ensures.due))
