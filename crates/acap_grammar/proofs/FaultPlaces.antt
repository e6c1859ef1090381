-- A fault lies at a token or at the end of the line, and what stands after that token changes nothing.
use Rattle.std.proofs.Common.{◌≡◌, drop, ℕ, zero, suc, ◌+◌, ◌-◌, ◌<◌, ◌≤◌, Bool, true, false, List, [], ◌∷◌, ◌++◌, length, take, Option, Some, None, Result, Ok, Err, refl, sym, ap, subst, ◌∙◌, arith, length-append, ◌⊎◌, inl, inr}
use Rattle.std.specs.Prelude.{codes, option_map, if◌then◌else◌}
use Rattle.acap_lexer.specs.declared.kind.Kind.{Kind}
use Rattle.acap_lexer.specs.Token.{Token}
use Rattle.acap_order.specs.declared.comparator.Comparator.{Comparator}
use Rattle.acap_commands.specs.EntryOrder as entry_order
use Rattle.acap_commands.specs.Modifiers as plain_modifiers
use Rattle.acap_commands.specs.declared.command.Command.{Command}
use Rattle.acap_grammar.specs.declared.command_fault.CommandFault.{CommandFault}
use Rattle.acap_grammar.specs.declared.command_fault.CommandFault.TheVariants as fault
use Rattle.acap_commands.specs.declared.search_modifiers.MakeContext.{MakeContext}
use Rattle.acap_commands.specs.declared.test.Relation.{Relation}
use Rattle.acap_commands.specs.declared.test.Relation.TheVariants as relation
use Rattle.acap_commands.specs.declared.returns.ReturnItem.{ReturnItem}
use Rattle.acap_commands.specs.declared.returns.ReturnName.{ReturnName}
use Rattle.acap_commands.specs.declared.search_modifiers.SearchModifiers.{SearchModifiers}
use Rattle.acap_grammar.specs.declared.searching.Scope.{Scope}
use Rattle.acap_commands.specs.declared.store.StoreEntry.{StoreEntry}
use Rattle.acap_commands.specs.declared.store.StoreItem.{StoreItem}
use Rattle.acap_commands.specs.declared.store.StoreModifiers.{StoreModifiers}
use Rattle.acap_grammar.specs.declared.storing.Gifts.{Gifts}
use Rattle.acap_commands.specs.declared.target.Target.{Target}
use Rattle.acap_commands.specs.declared.command.Verb.{Verb}
use Rattle.acap_commands.specs.declared.command.Verb.TheVariants as verb
use Rattle.acap_grammar.specs.declared.words.KeyWord.{KeyWord}
use Rattle.acap_grammar.specs.declared.words.KeyWord.TheVariants as key_word
use Rattle.acap_grammar.specs.declared.words.SearchWord.{SearchWord}
use Rattle.acap_grammar.specs.declared.words.SearchWord.TheVariants as search_word
use Rattle.acap_grammar.specs.declared.words.StoreWord.{StoreWord}
use Rattle.acap_grammar.specs.declared.words.StoreWord.TheVariants as store_word
use Rattle.acap_grammar.specs.Arguments as argument
use Rattle.acap_grammar.specs.Grammar as grammar
use Rattle.acap_grammar.specs.Keys as keys
use Rattle.acap_grammar.specs.Laws.{BeginsCommand, FirstFault, place_in, fault_at}
use Rattle.acap_grammar.specs.Marks as mark
use Rattle.acap_grammar.specs.Outcome.{◌>>=◌, Fault, Read, fault_here, verdict_at}
use Rattle.acap_grammar.specs.Searching as searching
use Rattle.acap_grammar.specs.Storing as storing
use Rattle.acap_commands.specs.Wanted.{Wanted}
use Rattle.std.proofs.Math.Seq.{take-append_seam}
use Rattle.std.proofs.lemmas.Option.{some_pair_parts}
use Rattle.acap_grammar.proofs.Viable.{line_viable, verb_missing}
use Rattle.acap_grammar.proofs.Induction.{Judged, Closed, arguments}
use Rattle.acap_grammar.proofs.Looking.{left_in, Front, Looks, Glances, At, Stops, Goes, bind, value, begins, by_token, behind_first, stops_there, past_first, choose, starting, ending, named, string, new_name, behind, worded, judged_first, worded_first, flagged, items, some_items, enclosed_items}

-- ---- numbers and strings

number : Looks argument.number_at
unfolding argument.number_at
number = by_token _ (begins _ refl) (λ t. by_kind t (mark.is_word t.kind) refl (argument.number_in t.value) refl) where
  by_kind : (t : Token) (b : Bool) → mark.is_word t.kind ≡ b → (o : Option ℕ) → argument.number_in t.value ≡ o → At argument.number_at t
  by_kind t false e o n = Stops (fault_here [] fault.Arguments) (λ rest. rw e refl)
  by_kind t true e None n = Stops (fault_here [] fault.Arguments) (λ rest. rw (e, n) refl)
  by_kind t true e (Some x) n = Goes (λ rest. Ok (x, rest)) (value x) (λ rest. rw (e, n) refl)

strings_step : (u : Token) (rest : List Token) (seen : List (List ℕ)) (r : Read (List (List ℕ))) (t : Token) (left : List Token)
    → (storing.strings_at (seen ++ u.value ∷ []) rest ≡ r → Front (storing.strings_at (seen ++ u.value ∷ [])) rest r t left) → left_in r ≡ t ∷ left
    → (b : Bool) → mark.is_close u.kind ≡ b → (c : Bool) → mark.is_string u.kind ≡ c
    → (if b then Ok (seen, rest) else (if c then storing.strings_at (seen ++ u.value ∷ []) rest else fault_here (u ∷ rest) fault.Arguments)) ≡ r → Front (storing.strings_at seen) (u ∷ rest) r t left
unfolding storing.strings_at
strings_step u rest seen r t left further l true p c q e = behind_first (storing.strings_at seen) (λ more. Ok (seen, more)) u rest r t left (λ more. rw p refl) ((value seen).ahead rest r t left e l)
strings_step u rest seen r t left further l false p true q e = behind_first (storing.strings_at seen) (storing.strings_at (seen ++ u.value ∷ [])) u rest r t left (λ more. rw (p, q) refl) (further e)
strings_step u rest seen r t left further l false p false q e = stops_there (storing.strings_at seen) u rest r (fault_here [] fault.Arguments) t left (λ more. rw (p, q) refl) e l

strings_ahead : (tokens : List Token) (seen : List (List ℕ)) (r : Read (List (List ℕ))) (t : Token) (left : List Token) → storing.strings_at seen tokens ≡ r → left_in r ≡ t ∷ left → Front (storing.strings_at seen) tokens r t left
unfolding storing.strings_at
strings_ahead [] seen r t left e l = let p : [] ≡ t ∷ left = ap left_in e ∙ l in absurd cc
strings_ahead (u ∷ rest) seen r t left e l = strings_step u rest seen r t left (λ m. strings_ahead rest (seen ++ u.value ∷ []) r t left m l) l (mark.is_close u.kind) refl (mark.is_string u.kind) refl e

argument_missing : {A : Type 0} (tokens : List Token) (e : Fault) → ◌≡◌ {A = Read A} (fault_here tokens fault.Arguments) (Err e) → e.fault ≡ fault.Arguments
argument_missing tokens e m = let same : record { fault = fault.Arguments; left = tokens } ≡ e = cc in ap (λ (x : Fault). x.fault) (sym same)

strings_end : (tokens : List Token) (seen : List (List ℕ)) (e : Fault) → storing.strings_at seen tokens ≡ Err e → e.fault ≡ fault.Arguments
unfolding storing.strings_at
strings_end [] seen e m = argument_missing [] e m
strings_end (u ∷ rest) seen e m = by_kind (mark.is_close u.kind) (mark.is_string u.kind) (λ n. strings_end rest (seen ++ u.value ∷ []) e n) m where
  by_kind : (b c : Bool) → (storing.strings_at (seen ++ u.value ∷ []) rest ≡ Err e → e.fault ≡ fault.Arguments)
      → (if b then Ok (seen, rest) else (if c then storing.strings_at (seen ++ u.value ∷ []) rest else fault_here (u ∷ rest) fault.Arguments)) ≡ Err e → e.fault ≡ fault.Arguments
  by_kind true c further n = absurd cc
  by_kind false true further n = further n
  by_kind false false further n = argument_missing (u ∷ rest) e n

strings : (seen : List (List ℕ)) → Looks (storing.strings_at seen)
strings seen = record { ahead = λ tokens r t left e l. strings_ahead tokens seen r t left e l; at_end = λ tokens e m l. strings_end tokens seen e m }

-- ---- words, and the arguments of each verb

judged_word : {W A : Type 0} (table : List (List ℕ × W)) (g : List Token → Option (W × List Token) → Read A) → ((ts : List Token) → g ts None ≡ fault_here ts fault.Arguments)
    → ((w : W) → Judged (λ A (read : List Token → Read A). Looks read) g w) → Looks (λ ts. g ts (mark.word_at table ts))
judged_word table g none some = worded table g none (λ t w. by_first t w (some w)) where
  by_first : (t : Token) (w : _) (s : Judged (λ A (read : List Token → Read A). Looks read) g w) → At (λ ts. g ts (Some (w, drop 1 ts))) t
  by_first t w s = elim (judged_first s.judgement s.next s.holds t) [
    | Stops verdict stops ↦ Stops verdict (λ rest. s.is (t ∷ rest) rest ∙ stops rest)
    | Goes next p goes ↦ Goes next p (λ rest. s.is (t ∷ rest) rest ∙ goes rest)
  ]

too_deep : Looks (keys.key_at zero)
unfolding keys.key_at mark.ends mark.word_at
too_deep = by_token _ (begins _ refl) (λ t. Stops (fault_here [] fault.TooDeep) (λ rest. refl))

looks : Closed (λ A (read : List Token → Read A). Looks read) Glances (λ (is : Kind → Bool). Unit {0})
looks = record {
  string_kind = tt;
  open_kind = tt;
  close_kind = tt;
  starting = λ is h. starting is;
  ending = ending;
  worded_first = worded_first;
  value = value;
  bind = bind;
  choose = choose;
  behind = λ is f h p. behind is f p;
  past_first = past_first;
  string = string;
  strings = strings [];
  number = number;
  named = named;
  new_name = new_name;
  worded = judged_word;
  flagged = flagged;
  items = items;
  too_deep = too_deep;
}

-- ---- the whole of a line

-- after a verb up to the end
abbrev ended_by : Bool → Command × List Token → Read Command
ended_by b x = if b then Ok (x.0, x.1) else fault_here x.1 fault.Arguments

abbrev ended : Command × List Token → Read Command
ended x = ended_by (mark.ends x.1) x

abbrev line_behind : Verb → List Token → Read Command
line_behind v ts = grammar.arguments_at v ts >>= ended

line_looks : (v : Verb) → Looks (line_behind v)
line_looks v =
    bind _ _ (arguments looks v) (λ c. choose mark.ends (λ ts. Ok (c, ts)) (λ ts. fault_here ts fault.Arguments) ending (value c) (by_token _ (begins _ refl) (λ t. Stops (fault_here [] fault.Arguments) (λ rest. refl))))

to_line : (r : Read Command) (e : Fault) → (r >>= grammar.whole) ≡ Err e → (r >>= ended) ≡ Err e
to_line (Err d) e m = let same : d ≡ e = cc in ap Err same
to_line (Ok x) e m = by_end (mark.ends x.1) m where
  by_end : (b : Bool) → (if b then Ok x.0 else fault_here x.1 fault.Arguments) ≡ Err e → ended_by b x ≡ Err e
  by_end true n = absurd cc
  by_end false n = let same : record { fault = fault.Arguments; left = x.1 } ≡ e = cc in ap Err same

from_line : (r : Read Command) (e : Fault) → (r >>= ended) ≡ Err e → (r >>= grammar.whole) ≡ Err e
from_line (Err d) e m = let same : d ≡ e = cc in ap Err same
from_line (Ok x) e m = by_end (mark.ends x.1) m where
  by_end : (b : Bool) → ended_by b x ≡ Err e → (if b then Ok x.0 else fault_here x.1 fault.Arguments) ≡ Err e
  by_end true n = absurd cc
  by_end false n = let same : record { fault = fault.Arguments; left = x.1 } ≡ e = cc in ap Err same

-- the tokens before the fault
record Place (tokens : List Token) (e : Fault) (t : Token) (left : List Token) : Type 0 where
  pub front : List Token
  pub whole : tokens ≡ front ++ t ∷ left
  pub same : (other : List Token) → grammar.command_at (front ++ t ∷ other) ≡ fault_here (t ∷ other) e.fault

line_place : (tokens : List Token) (e : Fault) (t : Token) (left : List Token) → grammar.command_at tokens ≡ Err e → e.left ≡ t ∷ left → Place tokens e t left
unfolding mark.word_at
line_place [] e t left m l = let p : [] ≡ t ∷ left = ap (λ (x : Fault). x.left) (verb_missing [] e m) ∙ l in absurd cc
line_place (tag ∷ []) e t left m l = let p : [] ≡ t ∷ left = ap (λ (x : Fault). x.left) (verb_missing [] e m) ∙ l in absurd cc
line_place (tag ∷ u ∷ rest) e t left m l = by_word (mark.is_word u.kind) refl (mark.word_in grammar.verbs u.value) refl m where
  unknown : ((more : List Token) → grammar.command_at (tag ∷ u ∷ more) ≡ fault_here (u ∷ more) fault.UnknownCommand) → grammar.command_at (tag ∷ u ∷ rest) ≡ Err e → Place (tag ∷ u ∷ rest) e t left
  unknown is n =
      let same : record { fault = fault.UnknownCommand; left = u ∷ rest } ≡ e = verb_missing (u ∷ rest) e (sym (is rest) ∙ n) in
      let all : u ∷ rest ≡ t ∷ left = ap (λ (x : Fault). x.left) same ∙ l in
      let first : u ≡ t = cc in
      record {
        front = tag ∷ [];
        whole = ap (λ (ts : List Token). tag ∷ ts) all;
        same = λ other. subst (λ (v : Token). grammar.command_at (tag ∷ v ∷ other) ≡ fault_here (v ∷ other) e.fault) first (is other ∙ ap (λ (x : Fault). fault_here (u ∷ other) x.fault) same);
      }

  by_word : (b : Bool) → mark.is_word u.kind ≡ b → (o : Option Verb) → mark.word_in grammar.verbs u.value ≡ o → grammar.command_at (tag ∷ u ∷ rest) ≡ Err e → Place (tag ∷ u ∷ rest) e t left
  by_word false p o q n = unknown (λ more. rw p refl) n
  by_word true p None q n = unknown (λ more. rw (p, q) refl) n
  by_word true p (Some v) q n =
      let read : (more : List Token) → grammar.command_at (tag ∷ u ∷ more) ≡ (grammar.arguments_at v more >>= grammar.whole) = λ more. rw (p, q) refl in
      let g = (line_looks v).ahead rest (Err e) t left (to_line (grammar.arguments_at v rest) e (sym (read rest) ∙ n)) l in
      record {
        front = tag ∷ u ∷ g.front;
        whole = ap (λ (ts : List Token). tag ∷ u ∷ ts) g.whole;
        same = λ other. read (g.front ++ t ∷ other) ∙ from_line (grammar.arguments_at v (g.front ++ t ∷ other)) _ (g.same other);
      }

line_end : (tokens : List Token) (e : Fault) → grammar.command_at tokens ≡ Err e → e.left ≡ [] → (e.fault ≡ fault.Arguments) ⊎ (e.fault ≡ fault.UnknownCommand)
unfolding mark.word_at
line_end [] e m l = inr (ap (λ (x : Fault). x.fault) (sym (verb_missing [] e m)))
line_end (tag ∷ []) e m l = inr (ap (λ (x : Fault). x.fault) (sym (verb_missing [] e m)))
line_end (tag ∷ u ∷ rest) e m l = by_word (mark.is_word u.kind) (mark.word_in grammar.verbs u.value) m where
  by_word : (b : Bool) (o : Option Verb) → grammar.command_by (u ∷ rest) (if b then option_map (λ x. (x, rest)) o else None) ≡ Err e → (e.fault ≡ fault.Arguments) ⊎ (e.fault ≡ fault.UnknownCommand)
  by_word false o n = inr (ap (λ (x : Fault). x.fault) (sym (verb_missing (u ∷ rest) e n)))
  by_word true None n = inr (ap (λ (x : Fault). x.fault) (sym (verb_missing (u ∷ rest) e n)))
  by_word true (Some v) n = inl ((line_looks v).at_end rest e (to_line (grammar.arguments_at v rest) e n) l)

-- ---- by the index of the token

taken : (front : List Token) (t : Token) (left others : List Token) → take (length front + 1) (front ++ t ∷ left) ++ others ≡ front ++ t ∷ others
taken [] t left others = refl
taken (u ∷ front) t left others =
    let next : suc (length front) + 1 ≡ suc (length front + 1) = omega arith in
    rw next (ap (λ (ts : List Token). u ∷ ts) (taken front t left others))

index_of : (front : List Token) (t : Token) (left : List Token) → length (front ++ t ∷ left) - length (t ∷ left) ≡ length front
index_of front t left = omega (arith, length-append front (t ∷ left))

cut_there : (tokens others front : List Token) (t : Token) (left : List Token) (i : ℕ) (e f : CommandFault) → tokens ≡ front ++ t ∷ left → length front ≡ i → f ≡ e
    → grammar.command_at (front ++ t ∷ others) ≡ fault_here (t ∷ others) f → fault_at (take (i + 1) tokens ++ others) ≡ Some (e, i)
cut_there tokens others front t left i e f whole index same is = rw (whole, ← index, taken front t left others, is, index_of front t others, same) refl

told : (tokens : List Token) (r : Result Command Fault) (e : CommandFault) (i : ℕ) → place_in tokens r ≡ Some (e, i) → grammar.without_place r ≡ Err e
told tokens (Ok c) e i p = absurd cc
told tokens (Err d) e i p = ap Err (some_pair_parts _ _ _ _ p).0

within : (tokens : List Token) (r : Result Command Fault) (e : CommandFault) (i : ℕ) → place_in tokens r ≡ Some (e, i) → i ≤ length tokens
within tokens (Ok c) e i p = absurd cc
within tokens (Err d) e i p = let same : length tokens - length d.left ≡ i = (some_pair_parts _ _ _ _ p).1 in omega arith

first : (tokens others : List Token) (r : Result Command Fault) (e : CommandFault) (i : ℕ) → grammar.command_at tokens ≡ r → place_in tokens r ≡ Some (e, i) → i < length tokens → fault_at (take (i + 1) tokens ++ others) ≡ Some (e, i)
first tokens others (Ok c) e i m p lt = absurd cc
first tokens others (Err d) e i m p lt = by_left d.left refl where
  by_left : (left : List Token) → d.left ≡ left → fault_at (take (i + 1) tokens ++ others) ≡ Some (e, i)
  by_left [] l = let same : length tokens - length d.left ≡ i = (some_pair_parts _ _ _ _ p).1 in absurd (omega (arith, ap (λ (ts : List Token). length ts) l))
  by_left (t ∷ left) l =
      let g = line_place tokens d t left m l in
      let same : length tokens - length d.left ≡ i = (some_pair_parts _ _ _ _ p).1 in
      let index : length g.front ≡ i = omega (arith, ap (λ (ts : List Token). length ts) l, ap (λ (ts : List Token). length ts) g.whole, length-append g.front (t ∷ left)) in
      cut_there tokens others g.front t left i e d.fault g.whole index (some_pair_parts _ _ _ _ p).0 (g.same others)

missing : (tokens : List Token) (r : Result Command Fault) (e : CommandFault) → grammar.command_at tokens ≡ r → place_in tokens r ≡ Some (e, length tokens) → (e ≡ fault.Arguments) ⊎ (e ≡ fault.UnknownCommand)
missing tokens (Ok c) e m p = absurd cc
missing tokens (Err d) e m p = by_left d.left refl where
  by_left : (left : List Token) → d.left ≡ left → (e ≡ fault.Arguments) ⊎ (e ≡ fault.UnknownCommand)
  by_left [] l = let same : d.fault ≡ e = (some_pair_parts _ _ _ _ p).0 in subst (λ (x : CommandFault). (x ≡ fault.Arguments) ⊎ (x ≡ fault.UnknownCommand)) same (line_end tokens d m l)
  by_left (t ∷ left) l =
      let g = line_place tokens d t left m l in
      let same : length tokens - length d.left ≡ length tokens = (some_pair_parts _ _ _ _ p).1 in
      absurd (omega (arith, ap (λ (ts : List Token). length ts) l, ap (λ (ts : List Token). length ts) g.whole, length-append g.front (t ∷ left)))

viable : (tokens : List Token) (r : Result Command Fault) (e : CommandFault) (i : ℕ) → grammar.command_at tokens ≡ r → place_in tokens r ≡ Some (e, i) → i < length tokens → (e ≡ fault.TooDeep → ⊥)
    → BeginsCommand (take i tokens)
unfolding grammar.command_of
viable tokens (Ok c) e i m p lt deep = absurd cc
viable tokens (Err d) e i m p lt deep = by_left d.left refl where
  by_left : (left : List Token) → d.left ≡ left → BeginsCommand (take i tokens)
  by_left [] l = let same : length tokens - length d.left ≡ i = (some_pair_parts _ _ _ _ p).1 in absurd (omega (arith, ap (λ (ts : List Token). length ts) l))
  by_left (t ∷ left) l =
      let told_is : d.fault ≡ e = (some_pair_parts _ _ _ _ p).0 in
      let g = line_viable tokens d t left m l (λ h. deep (sym told_is ∙ h)) in
      let same : length tokens - length d.left ≡ i = (some_pair_parts _ _ _ _ p).1 in
      let index : length g.front ≡ i = omega (arith, ap (λ (ts : List Token). length ts) l, ap (λ (ts : List Token). length ts) g.whole, length-append g.front (t ∷ left)) in
      let front : take i tokens ≡ g.front = ap (λ (k : ℕ). take k tokens) (sym index) ∙ ap (take (length g.front)) g.whole ∙ take-append_seam g.front (t ∷ left) in
      record { others = g.others; what = g.what; is = ap (λ (ts : List Token). grammar.command_of (ts ++ g.others)) front ∙ ap grammar.without_place g.is }

pub first_fault : FirstFault
unfolding grammar.command_of
first_fault = record {
  told = λ tokens e i p. told tokens (grammar.command_at tokens) e i p;
  within = λ tokens e i p. within tokens (grammar.command_at tokens) e i p;
  first = λ tokens others e i p lt. first tokens others (grammar.command_at tokens) e i refl p lt;
  viable = λ tokens e i p lt deep. viable tokens (grammar.command_at tokens) e i refl p lt deep;
  missing = λ tokens e p. missing tokens (grammar.command_at tokens) e refl p;
}
