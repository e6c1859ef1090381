use Rattle.std.proofs.Common.{◌≡◌, ◌∷◌, drop, sym, ap, ◌∙◌, arith, length, length-drop}
use Rattle.acap_lexer.proofs.Quoting.{plain_string}
use Rattle.acap_lexer.proofs.strings.plain_string_at.Goals as goal

pub returns : goal.returns
returns c =
    let back : drop c.plain_len-len.result c.args.rest.now ≡ 34 ∷ c.in_ok-quote.left.now =
    sym c.split_at.ensures.back ∙ c.in_ok-quote.ensures.cases.0 ∙ ap (λ q. q ∷ c.in_ok-quote.left.now) c.if-quote-ne34.false in
    record {
      string_is = plain_string _ _ _ c.plain_len-len.ensures.longest back (omega arith);
      within = c.plain_len-len.ensures.within;
      shorter = omega (arith, ap length back, length-drop c.plain_len-len.result c.args.rest.now);
    }
