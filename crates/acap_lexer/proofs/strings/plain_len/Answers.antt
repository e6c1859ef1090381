use Rattle.std.proofs.Common.{sym, ap, ◌∙◌, arith}
use lib.Count.{count_trailing_zeros}
use Rattle.acap_lexer.proofs.PlainWords.{goes_through, stops_within, front_within}
use Rattle.acap_lexer.proofs.strings.plain_len.Goals as goal

pub returns-then-found-ne0-clause-longest : goal.returns-then-found-ne0-clause-longest
returns-then-found-ne0-clause-longest c =
    let found = c.specials-found in
    let run = stops_within c.args.text.now c.words.at 16 (omega arith) (omega arith) (omega (arith, found.ensures)) ∙ ap (count_trailing_zeros 64) (sym found.ensures) in
    omega (arith, run, c.words.invariant.counted)

pub returns-then-found-ne0-clause-within : goal.returns-then-found-ne0-clause-within
returns-then-found-ne0-clause-within c =
    let found = c.specials-found in
    let run = stops_within c.args.text.now c.words.at 16 (omega arith) (omega arith) (omega (arith, found.ensures)) ∙ ap (count_trailing_zeros 64) (sym found.ensures) in
    omega (arith, run, front_within c.args.text.now c.words.at c.words.invariant.within)

pub words-preserved : goal.words-preserved
words-preserved c =
    let run = goes_through c.args.text.now c.words.at 16 (omega arith) (omega (arith, c.specials-found.ensures)) in
    record { within = omega arith; counted = omega (arith, run, c.words.invariant.counted) }
