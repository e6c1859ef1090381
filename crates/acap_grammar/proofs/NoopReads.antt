-- Which lines stand for a NOOP.
use Rattle.std.proofs.Common.{◌≡◌, List, [], ◌∷◌, ℕ, Bool, true, false, cond, codes, drop, Option, Some, None, option_map, Result, Ok, Err, refl, ap, ◌∙◌}
use Rattle.std.specs.List.{AllByRecursion}
use Rattle.std.specs.Prelude.{find, if◌then◌else◌}
use Rattle.std.specs.Str.{str_eq_ignore_ascii_case}
use Rattle.acap_lexer.specs.Token.{Token}
use Rattle.acap_commands.specs.declared.command.Command.{Command}
use Rattle.acap_commands.specs.declared.command.Command.TheVariants as command
use Rattle.acap_commands.specs.declared.command.Verb.{Verb}
use Rattle.acap_commands.specs.declared.command.Verb.TheVariants as verb
use Rattle.acap_grammar.specs.declared.command_fault.CommandFault.TheVariants as fault
use Rattle.acap_grammar.specs.Arguments.{context_named, dataset_named, named_at, object_at, time_named}
use Rattle.acap_grammar.specs.Grammar.{verbs, arguments_at, set_acl_at, delete_acl_at, list_rights_at, deleted_since_at, identifier_part, contexts_at, command_by, command_at, command_of, whole, without_place}
use Rattle.acap_grammar.specs.Marks.{is_word, ends, string_at, word_at, behind_word}
use Rattle.acap_grammar.specs.Outcome.{◌>>=◌, Fault, Read, fault_here}
use Rattle.acap_grammar.specs.Searching.{search_at}
use Rattle.acap_grammar.specs.Storing.{entries_at}

-- ---- a line that is one

by_word : (tokens r left : List Token) (k w : Bool) (more : Option (List ℕ × Verb)) → cond k (cond w (Some r) None) None ≡ Some left → ends left ≡ true
    → command_by tokens (cond k (option_map (λ x. (x, r)) (option_map (λ row. row.1) (cond w (Some (codes "NOOP", verb.Noop)) more))) None) ≡ Ok command.Noop
unfolding arguments_at
by_word tokens r left true true more e n =
    let same : r ≡ left = cc in
    rw (same, n) refl
by_word tokens r left true false more e n = absurd cc
by_word tokens r left false w more e n = absurd cc

at_rest : (tokens rest left : List Token) → behind_word (codes "NOOP") rest ≡ Some left → ends left ≡ true → command_by tokens (word_at verbs rest) ≡ Ok command.Noop
unfolding word_at behind_word
at_rest tokens [] left e n = absurd cc
at_rest tokens (t ∷ r) left e n = by_word tokens r left (is_word t.kind) (str_eq_ignore_ascii_case t.value (codes "NOOP")) _ e n

pub noop_read : (tokens left : List Token) → behind_word (codes "NOOP") (drop 1 tokens) ≡ Some left → ends left ≡ true → command_of tokens ≡ Ok command.Noop
unfolding command_of
noop_read tokens left e n = ap without_place (at_rest (drop 1 tokens) (drop 1 tokens) left e n)

-- ---- and no other

never : {A : Type 0} (r : Read A) (f : A × List Token → Read Command) (left : List Token) → ((x : A × List Token) → f x ≡ Ok (command.Noop, left) → ⊥)
    → (r >>= f) ≡ Ok (command.Noop, left) → ⊥
never (Ok x) f left h e = h x e
never (Err d) f left h e = cc (e)

same_command : (c d : Command) (ts us : List Token) → ◌≡◌ {A = Read Command} (Ok (c, ts)) (Ok (d, us)) → c ≡ d
same_command c d ts us e = let pair : ◌≡◌ {A = Command × List Token} (c, ts) (d, us) = cc in ap (λ (x : Command × List Token). x.0) pair

by_verb : (v : Verb) (ts left : List Token) → arguments_at v ts ≡ Ok (command.Noop, left) → v ≡ verb.Noop
unfolding arguments_at set_acl_at delete_acl_at list_rights_at deleted_since_at
by_verb verb.Noop ts left e = refl
by_verb verb.Logout ts left e = absurd (cc (same_command command.Logout command.Noop ts left e))
by_verb verb.Authenticate ts left e = absurd (never (string_at ts) _ left (λ x h. cc (same_command _ command.Noop x.1 left h)) e)
by_verb verb.Store ts left e = absurd (never (entries_at ts) _ left (λ x h. cc (same_command _ command.Noop x.1 left h)) e)
by_verb verb.Search ts left e = absurd (never (search_at ts) _ left (λ x h. cc (same_command _ command.Noop x.1 left h)) e)
by_verb verb.SetAcl ts left e =
    absurd (never (object_at ts) _ left (λ o. never (string_at o.1) _ left (λ i. never (string_at i.1) _ left (λ r h. cc (same_command _ command.Noop r.1 left h)))) e)
by_verb verb.DeleteAcl ts left e = absurd (never (object_at ts) _ left (λ o. never (identifier_part o.1) _ left (λ i h. cc (same_command _ command.Noop i.1 left h))) e)
by_verb verb.MyRights ts left e = absurd (never (object_at ts) _ left (λ x h. cc (same_command _ command.Noop x.1 left h)) e)
by_verb verb.ListRights ts left e = absurd (never (object_at ts) _ left (λ o. never (string_at o.1) _ left (λ i h. cc (same_command _ command.Noop i.1 left h))) e)
by_verb verb.DeletedSince ts left e =
    absurd (never (named_at dataset_named ts) _ left (λ d. never (named_at time_named d.1) _ left (λ t h. cc (same_command _ command.Noop t.1 left h))) e)
by_verb verb.FreeContext ts left e = absurd (never (named_at context_named ts) _ left (λ x h. cc (same_command _ command.Noop x.1 left h)) e)
by_verb verb.UpdateContext ts left e = absurd (never (contexts_at ts) _ left (λ x h. cc (same_command _ command.Noop x.1 left h)) e)

-- a whole command, and what was left of its line
record IsWhole (r : Read Command) : Type 0 where
  left : List Token
  read : r ≡ Ok (command.Noop, left)
  over : ends left ≡ true

whole_line : (r : Read Command) → (r >>= whole) ≡ Ok command.Noop → IsWhole r
whole_line (Err d) e = absurd (cc (e))
whole_line (Ok x) e = by_end (ends x.1) refl e where
  by_end : (b : Bool) → ends x.1 ≡ b → (if b then Ok x.0 else fault_here x.1 fault.Arguments) ≡ Ok command.Noop → IsWhole (Ok x)
  by_end true n f = let same : x.0 ≡ command.Noop = cc in record { left = x.1; read = ap (λ (c : Command). Ok (c, x.1)) same; over = n }
  by_end false n f = absurd cc

-- a row of the table that is found among others has another verb
found_other : (p : List ℕ × Verb → Bool) (rows : List (List ℕ × Verb)) → AllByRecursion (λ row. row.1 ≡ verb.Noop → ⊥) rows → (row : List ℕ × Verb)
    → find p rows ≡ Some row → row.1 ≡ verb.Noop → ⊥
found_other p [] h row e n = cc (e)
found_other p (r ∷ rows) h row e n = by_test (p r) (λ f. found_other p rows h.1 row f n) e where
  by_test : (b : Bool) → (find p rows ≡ Some row → ⊥) → (if b then Some r else find p rows) ≡ Some row → ⊥
  by_test true more f = let same : r ≡ row = cc in h.0 (ap (λ (x : List ℕ × Verb). x.1) same ∙ n)
  by_test false more f = more f

others : AllByRecursion (λ (row : List ℕ × Verb). row.1 ≡ verb.Noop → ⊥) (drop 1 verbs)
others =
    ((λ e. cc (e)), ((λ e. cc (e)), ((λ e. cc (e)), ((λ e. cc (e)), ((λ e. cc (e)), ((λ e. cc (e)), ((λ e. cc (e)), ((λ e. cc (e)), ((λ e. cc (e)), ((λ e. cc (e)), ((λ e. cc (e)), tt)))))))))))

-- what stands after the word NOOP, where the line is one
pub record IsNoop (rest : List Token) : Type 0 where
  pub left : List Token
  pub behind : behind_word (codes "NOOP") rest ≡ Some left
  pub over : ends left ≡ true

from_word : (tokens rest : List Token) → command_by tokens (word_at verbs rest) ≡ Ok command.Noop → IsNoop rest
unfolding arguments_at word_at behind_word
from_word tokens [] e = absurd (cc (e))
from_word tokens (t ∷ r) e = by_kind (is_word t.kind) refl (str_eq_ignore_ascii_case t.value (codes "NOOP")) refl e where
  rest_of : Option (List ℕ × Verb)
  rest_of = find (λ row. str_eq_ignore_ascii_case t.value row.0) (drop 1 verbs)

  other : (o : Option (List ℕ × Verb)) → rest_of ≡ o → command_by tokens (option_map (λ x. (x, r)) (option_map (λ row. row.1) o)) ≡ Ok command.Noop → IsNoop (t ∷ r)
  other None q f = absurd (cc (f))
  other (Some row) q f =
      let w = whole_line (arguments_at row.1 r) f in
      absurd (found_other (λ x. str_eq_ignore_ascii_case t.value x.0) (drop 1 verbs) others row q (by_verb row.1 r w.left w.read))

  by_kind : (k : Bool) → is_word t.kind ≡ k → (w : Bool) → str_eq_ignore_ascii_case t.value (codes "NOOP") ≡ w
      → command_by tokens (cond k (option_map (λ x. (x, r)) (option_map (λ row. row.1) (cond w (Some (codes "NOOP", verb.Noop)) rest_of))) None) ≡ Ok command.Noop
      → IsNoop (t ∷ r)
  by_kind true p true q f =
      let w = whole_line (Ok (command.Noop, r)) f in
      let same : r ≡ w.left = let pair : ◌≡◌ {A = Command × List Token} (command.Noop, r) (command.Noop, w.left) = cc (w.read) in ap (λ (x : Command × List Token). x.1) pair in
      record { left = r; behind = rw (p, q) refl; over = ap ends same ∙ w.over }
  by_kind true p false q f = other rest_of refl f
  by_kind false p w q f = absurd (cc (f))

without : (r : Result Command Fault) (c : Command) → without_place r ≡ Ok c → r ≡ Ok c
without (Ok x) c e = let same : x ≡ c = cc in ap Ok same
without (Err d) c e = absurd cc

pub noop_only : (tokens : List Token) → command_of tokens ≡ Ok command.Noop → IsNoop (drop 1 tokens)
unfolding command_of
noop_only tokens e = from_word (drop 1 tokens) (drop 1 tokens) (without (command_at tokens) command.Noop e)
