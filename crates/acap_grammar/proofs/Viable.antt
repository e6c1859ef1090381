-- What stands before a fault begins a command: by the readers of all that a line may have.
use Rattle.std.proofs.Common.{◌≡◌, ℕ, Bool, true, false, List, [], ◌∷◌, ◌++◌, codes, Option, Some, None, Result, Ok, Err, refl, sym, ap, subst, ◌∙◌, ◌⊎◌, inl, inr}
use Rattle.std.specs.Prelude.{if◌then◌else◌}
use Rattle.acap_grammar.specs.Searching as searching
use Rattle.acap_commands.specs.declared.command.Command.{Command}
use Rattle.acap_commands.specs.declared.command.Command.TheVariants as command
use Rattle.acap_commands.specs.declared.command.Verb.{Verb}
use Rattle.acap_commands.specs.declared.command.Verb.TheVariants as verb
use Rattle.acap_grammar.specs.Grammar as grammar
use Rattle.acap_lexer.specs.Token.{Token}
use Rattle.acap_grammar.specs.declared.command_fault.CommandFault.TheVariants as fault
use Rattle.acap_grammar.specs.Arguments as argument
use Rattle.acap_grammar.specs.Arguments.{named_at}
use Rattle.acap_grammar.specs.Marks as mark
use Rattle.acap_grammar.specs.Outcome.{◌>>=◌, Fault, Read, fault_here}
use Rattle.acap_grammar.specs.Storing as storing
use Rattle.acap_grammar.proofs.Looking.{ending}
use Rattle.acap_grammar.proofs.Mending.{any, Completes, Mends, Begun, Items, Always, Taking, begun_made, made, mended, plain_items, some_begun, some_items, takes_one, make_taking, unless}
use Rattle.acap_grammar.proofs.ViableParts.{word, string, a_string, named, Whole, a_value, both, made_of, the_name, root_named, a_time, object, an_object}
use Rattle.acap_grammar.proofs.ViableStores.{entries, an_entries}
use Rattle.acap_grammar.proofs.ViableSearches.{c_named, search}

-- ---- commands

identifier_part : Whole grammar.identifier_part mark.ends
unfolding mark.ends
identifier_part =
    let there = make_taking mark.string_at (λ x. Some x) mark.ends string in
    record { mends = unless mark.ends None _ ending (mended _ mark.ends there) (takes_one _ mark.ends there); begun = record { more = []; value = None; is = λ rest h. rw h refl; start = λ rest h. refl } }

context_item : (seen : List (List ℕ)) → Taking (grammar.context_at seen) any
unfolding grammar.context_at
context_item seen = make_taking (named_at argument.context_named) (λ x. seen ++ x ∷ []) any (named _)

a_context_item : (seen : List (List ℕ)) → Begun (grammar.context_at seen) any any
unfolding grammar.context_at
a_context_item seen = begun_made (named_at argument.context_named) any any (λ x. seen ++ x ∷ []) (the_name _ (codes "c") _ c_named)

all_contexts : Items mark.ends any grammar.context_at Always
all_contexts = plain_items mark.ends any grammar.context_at ending (λ rest h. refl) ([], refl) (λ s. mended _ any (context_item s)) (λ s. takes_one _ any (context_item s))

contexts : Mends grammar.contexts_at mark.ends
unfolding grammar.contexts_at
contexts = some_items mark.ends (mark.starts mark.is_string) any grammar.context_at Always all_contexts 200 [] tt

a_contexts : Begun grammar.contexts_at mark.ends any
unfolding grammar.contexts_at
a_contexts = some_begun mark.ends (mark.starts mark.is_string) any any grammar.context_at Always all_contexts 200 [] (a_context_item [])

an_identifier : Begun mark.string_at any any
an_identifier = a_string any (λ rest. refl)

behind_verb : (v : Verb) → Whole (grammar.arguments_at v) mark.ends
unfolding grammar.arguments_at grammar.set_acl_at grammar.delete_acl_at grammar.list_rights_at grammar.deleted_since_at
behind_verb verb.Noop = a_value mark.ends _
behind_verb verb.Logout = a_value mark.ends _
behind_verb verb.Authenticate = made_of mark.string_at (λ x. command.Authenticate x) mark.ends (mended _ any string) an_identifier
behind_verb verb.Store = record { mends = made storing.entries_at mark.ends (λ x. command.Store x) entries; begun = begun_made storing.entries_at mark.ends any (λ x. command.Store x) an_entries }
behind_verb verb.Search = made_of searching.search_at (λ x. command.Search x) mark.ends search.mends search.begun
behind_verb verb.SetAcl =
    both argument.object_at _ mark.ends (mended _ any object) an_object
    (λ o. both mark.string_at _ mark.ends (mended _ any string) an_identifier (λ i. made_of mark.string_at (λ r. command.SetAcl o i r) mark.ends (mended _ any string) an_identifier))
behind_verb verb.DeleteAcl =
    both argument.object_at _ mark.ends (mended _ any object) an_object
    (λ o. record { mends = made grammar.identifier_part mark.ends (λ i. command.DeleteAcl o i) identifier_part.mends; begun = begun_made grammar.identifier_part mark.ends any (λ i. command.DeleteAcl o i) identifier_part.begun })
behind_verb verb.MyRights = made_of argument.object_at (λ x. command.MyRights x) mark.ends (mended _ any object) an_object
behind_verb verb.ListRights = both argument.object_at _ mark.ends (mended _ any object) an_object (λ o. made_of mark.string_at (λ i. command.ListRights o i) mark.ends (mended _ any string) an_identifier)
behind_verb verb.DeletedSince =
    both (named_at argument.dataset_named) _ mark.ends (mended _ any (named _)) (the_name _ (codes "/") _ root_named)
    (λ d. made_of (named_at argument.time_named) (λ since. command.DeletedSince d since) mark.ends (mended _ any (named _)) (the_name _ (codes "19700101000000") _ a_time))
behind_verb verb.FreeContext = made_of (named_at argument.context_named) (λ x. command.FreeContext x) mark.ends (mended _ any (named _)) (the_name _ (codes "c") _ c_named)
behind_verb verb.UpdateContext = record { mends = made grammar.contexts_at mark.ends (λ x. command.UpdateContext x) contexts; begun = begun_made grammar.contexts_at mark.ends any (λ x. command.UpdateContext x) a_contexts }

-- ---- the whole of a line

-- the tokens before the one at which a fault lies, and a command that begins so
pub record Viable (tokens : List Token) (t : Token) (left : List Token) : Type 0 where
  pub front : List Token
  pub others : List Token
  pub what : Command
  pub whole : tokens ≡ front ++ t ∷ left
  pub is : grammar.command_at (front ++ others) ≡ Ok what

-- after a verb, to the end of the line
record Ends (v : Verb) (front : List Token) : Type 0 where
  more : List Token
  what : Command
  is : (grammar.arguments_at v (front ++ more) >>= grammar.whole) ≡ Ok what

whole_there : (v : Verb) (tokens : List Token) (x : Command) → grammar.arguments_at v tokens ≡ Ok (x, []) → (grammar.arguments_at v tokens >>= grammar.whole) ≡ Ok x
unfolding mark.ends
whole_there v tokens x e = rw e refl

nothing_left : mark.ends [] ≡ true
unfolding mark.ends
nothing_left = refl

from_nothing : (v : Verb) → Ends v []
from_nothing v = let b = (behind_verb v).begun in record { more = b.more ++ []; what = b.value; is = whole_there v (b.more ++ []) b.value (b.is [] nothing_left) }

from_front : (v : Verb) (front : List Token) → (front ≡ []) ⊎ Completes (grammar.arguments_at v) mark.ends front → Ends v front
from_front v front (inl n) = subst (Ends v) (sym n) (from_nothing v)
from_front v front (inr c) = record { more = c.more ++ []; what = c.value; is = whole_there v (front ++ (c.more ++ [])) c.value (c.is [] nothing_left) }

record Fronted (v : Verb) (tokens : List Token) (t : Token) (left : List Token) : Type 0 where
  front : List Token
  whole : tokens ≡ front ++ t ∷ left
  ends : Ends v front

fronted : (v : Verb) (tokens : List Token) (e : Fault) (t : Token) (left : List Token) (r : Read Command) → grammar.arguments_at v tokens ≡ r → (r >>= grammar.whole) ≡ Err e → e.left ≡ t ∷ left → (e.fault ≡ fault.TooDeep → ⊥)
    → Fronted v tokens t left
fronted v tokens e t left (Err d) m n l deep =
    let same : d ≡ e = cc in
    let b = (behind_verb v).mends.mend tokens e t left (rw (← same) m) l deep in
    record { front = b.front; whole = b.whole; ends = from_front v b.front b.onward }
fronted v tokens e t left (Ok x) m n l deep = by_end (mark.ends x.1) n where
  by_end : (b : Bool) → (if b then Ok x.0 else fault_here x.1 fault.Arguments) ≡ Err e → Fronted v tokens t left
  by_end true k = absurd cc
  by_end false k =
      let all : record { fault = fault.Arguments; left = x.1 } ≡ e = cc in
      let s = (behind_verb v).mends.stay tokens x.0 x.1 m in
      record {
        front = s.front;
        whole = s.whole ∙ ap (λ (ts : List Token). s.front ++ ts) (ap (λ (y : Fault). y.left) all ∙ l);
        ends = record { more = []; what = x.0; is = whole_there v (s.front ++ []) x.0 (s.is [] nothing_left) };
      }

pub verb_missing : {A : Type 0} (tokens : List Token) (e : Fault) → ◌≡◌ {A = Result A Fault} (fault_here tokens fault.UnknownCommand) (Err e) → record { fault = fault.UnknownCommand; left = tokens } ≡ e
verb_missing tokens e m = cc

a_noop : (tag : Token) → grammar.command_at (tag ∷ word (codes "NOOP") ∷ []) ≡ Ok command.Noop
unfolding mark.word_at grammar.arguments_at mark.ends
a_noop tag = refl

pub line_viable : (tokens : List Token) (e : Fault) (t : Token) (left : List Token) → grammar.command_at tokens ≡ Err e → e.left ≡ t ∷ left → (e.fault ≡ fault.TooDeep → ⊥) → Viable tokens t left
unfolding mark.word_at
line_viable [] e t left m l deep = let p : [] ≡ t ∷ left = ap (λ (x : Fault). x.left) (verb_missing [] e m) ∙ l in absurd cc
line_viable (tag ∷ []) e t left m l deep = let p : [] ≡ t ∷ left = ap (λ (x : Fault). x.left) (verb_missing [] e m) ∙ l in absurd cc
line_viable (tag ∷ u ∷ rest) e t left m l deep = by_word (mark.is_word u.kind) refl (mark.word_in grammar.verbs u.value) refl m where
  unknown : grammar.command_at (tag ∷ u ∷ rest) ≡ fault_here (u ∷ rest) fault.UnknownCommand → grammar.command_at (tag ∷ u ∷ rest) ≡ Err e → Viable (tag ∷ u ∷ rest) t left
  unknown is n = record {
    front = tag ∷ [];
    others = word (codes "NOOP") ∷ [];
    what = command.Noop;
    whole = ap (λ (ts : List Token). tag ∷ ts) (ap (λ (x : Fault). x.left) (verb_missing (u ∷ rest) e (sym is ∙ n)) ∙ l);
    is = a_noop tag;
  }

  by_word : (b : Bool) → mark.is_word u.kind ≡ b → (o : Option Verb) → mark.word_in grammar.verbs u.value ≡ o → grammar.command_at (tag ∷ u ∷ rest) ≡ Err e → Viable (tag ∷ u ∷ rest) t left
  by_word false p o q n = unknown (rw p refl) n
  by_word true p None q n = unknown (rw (p, q) refl) n
  by_word true p (Some v) q n =
      let read : (more : List Token) → grammar.command_at (tag ∷ u ∷ more) ≡ (grammar.arguments_at v more >>= grammar.whole) = λ more. rw (p, q) refl in
      let g = fronted v rest e t left (grammar.arguments_at v rest) refl (sym (read rest) ∙ n) l deep in
      record {
        front = tag ∷ u ∷ g.front;
        others = g.ends.more;
        what = g.ends.what;
        whole = ap (λ (ts : List Token). tag ∷ u ∷ ts) g.whole;
        is = read (g.front ++ g.ends.more) ∙ g.ends.is;
      }
