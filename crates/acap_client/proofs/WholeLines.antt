-- The line of a command is its tag, its verb and its arguments.
use Rattle.std.proofs.Common.{◌≡◌, ℕ, Bool, true, false, List, [], ◌++◌, drop, Result, Ok, Err, refl, sym, ap, ◌∙◌}
use Rattle.std.specs.Prelude.{IfOk, Vec}
use Rattle.std.specs.declared.alloc.Global.{Global}
use Rattle.acap_lexer.specs.declared.kind.Kind.TheVariants as kind
use Rattle.acap_lexer.specs.Token.{Token}
use Rattle.acap_commands.specs.declared.command.Command.{Command}
use Rattle.acap_commands.specs.declared.command.Command.TheVariants as command
use Rattle.acap_lexer.specs.Printing.{may_quote}
use Rattle.acap_client.specs.Login.{answer_text}
use Rattle.acap_grammar.specs.Spelling.{string, tokens_of, word}
use Rattle.acap_grammar.specs.Texts.{line_of}
use Rattle.acap_client.specs.Parts.{arguments_of, verb_of}
use Rattle.acap_client.specs.Writing.{line_with, text_after, Writes}
use Rattle.acap_client.specs.declared.writing.Writing.{Writing}

spelled : (tag : List ℕ) (c : Command) → drop 1 (tokens_of tag c) ≡ word (verb_of c) (arguments_of c [])
spelled tag command.Noop = refl
spelled tag command.Logout = refl
spelled tag (command.Authenticate mechanism) = refl
spelled tag (command.Store entries) = refl
spelled tag (command.Search s) = refl
spelled tag (command.SetAcl o identifier rights) = refl
spelled tag (command.DeleteAcl o identifier) = refl
spelled tag (command.MyRights o) = refl
spelled tag (command.ListRights o identifier) = refl
spelled tag (command.DeletedSince name since) = refl
spelled tag (command.FreeContext context) = refl
spelled tag (command.UpdateContext contexts) = refl

line_is : (tag : List ℕ) (c : Command) → tag ++ text_after kind.Tag (word (verb_of c) (arguments_of c [])) ≡ line_of tag c
unfolding text_after
line_is tag c = ap (λ (ts : List Token). tag ++ text_after kind.Tag ts) (sym (spelled tag c))

whole : (tag verb : List ℕ) (c : Command) (made mid new : Writing) → ((tokens : List Token) → line_with made tokens ≡ tag ++ text_after kind.Tag tokens)
    → verb ≡ verb_of c → Writes (word verb) made mid → Writes (arguments_of c) mid new → line_with new [] ≡ line_of tag c
whole tag verb c made mid new begun is first others =
    sym (others []) ∙ sym (first (arguments_of c [])) ∙ ap (λ (v : List ℕ). line_with made (word v (arguments_of c []))) is
    ∙ begun (word (verb_of c) (arguments_of c [])) ∙ line_is tag c

pub sent : {E : Type 0} (r : Result (Vec ℕ Global) E) (tag verb : List ℕ) (c : Command) (made mid new : Writing)
    → ((tokens : List Token) → line_with made tokens ≡ tag ++ text_after kind.Tag tokens)
    → verb ≡ verb_of c → Writes (word verb) made mid → Writes (arguments_of c) mid new
    → IfOk r (λ line. line.items ≡ line_with new []) → IfOk r (λ line. line.items ≡ line_of tag c)
sent (Ok line) tag verb c made mid new begun is first others e = e ∙ whole tag verb c made mid new begun is first others
sent (Err fault) tag verb c made mid new begun is first others e = tt

-- ---- a line without a tag

string_alone : (text : List ℕ) (b : Bool) → may_quote text ≡ b → text_after kind.Open (string text []) ≡ answer_text text
unfolding text_after
string_alone text true e = rw e refl
string_alone text false e = rw e refl

pub answered : {E : Type 0} (r : Result (Vec ℕ Global) E) (text answer : List ℕ) (made new : Writing)
    → ((tokens : List Token) → line_with made tokens ≡ text_after kind.Open tokens) → text ≡ answer → Writes (string text) made new
    → IfOk r (λ line. line.items ≡ line_with new []) → IfOk r (λ line. line.items ≡ answer_text answer)
answered (Ok line) text answer made new begun is writes e =
    e ∙ sym (writes []) ∙ begun (string text []) ∙ string_alone text (may_quote text) refl ∙ ap answer_text is
answered (Err fault) text answer made new begun is writes e = tt
