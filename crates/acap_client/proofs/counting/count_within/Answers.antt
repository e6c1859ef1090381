use Rattle.std.proofs.Common.{◌≡◌, ◌<◌, true, length, rules, tests}
use Rattle.std.specs.List.{list_all}
use Rattle.acap_lexer.specs.Octets.{is_digit}
use Rattle.acap_client.proofs.Numbers.{too_few, no_digits, counts, over}
use Rattle.acap_client.proofs.counting.count_within.Goals as goal
use Rattle.acap_client.proofs.counting.count_within.Goals.{then-is_empty-via-then-is_empty, then-is_empty-via-else-is_empty+then-not-all_digits}

pub returns-then-is_empty : goal.returns-then-is_empty
returns-then-is_empty c =
    elim c.then-is_empty.branch [
      | then-is_empty-via-then-is_empty w ↦ too_few c.args.digits.now (search (rules, tests))
      | then-is_empty-via-else-is_empty+then-not-all_digits w ↦ no_digits c.args.digits.now (search (rules, tests))
    ]

pub returns-in-Some : goal.returns-in-Some
returns-in-Some c =
    let all : list_all is_digit c.args.digits.now ≡ true = search (rules, tests) in
    let some : 0 < length c.args.digits.now = search (rules, tests) in
    counts _ _ _ all some c.in-Some.ensures.some.0 c.in-Some.ensures.some.1

pub returns-in-None : goal.returns-in-None
returns-in-None c =
    let all : list_all is_digit c.args.digits.now ≡ true = search (rules, tests) in
    let some : 0 < length c.args.digits.now = search (rules, tests) in
    over _ _ all some c.in-None.ensures.none
