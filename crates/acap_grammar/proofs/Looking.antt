-- How far readers look: at the tokens that they take, and at the first that they leave.
use Rattle.std.proofs.Common.{◌≡◌, ℕ, zero, suc, ◌-◌, Bool, true, false, List, [], ◌∷◌, ◌++◌, drop, Option, Some, None, Result, Ok, Err, refl, sym, ap, subst, ◌∙◌, append_assoc, ◌⊎◌, inl, inr}
use Rattle.std.specs.Prelude.{if◌then◌else◌, option_map, is_none}
use Rattle.std.specs.Str.{str_eq_ignore_ascii_case}
use Rattle.acap_lexer.specs.declared.kind.Kind.{Kind}
use Rattle.acap_lexer.specs.Token.{Token}
use Rattle.acap_grammar.specs.declared.command_fault.CommandFault.{CommandFault}
use Rattle.acap_grammar.specs.declared.command_fault.CommandFault.TheVariants as fault
use Rattle.acap_grammar.specs.Outcome.{◌>>=◌, Fault, Read, fault_here, verdict_at}
use Rattle.acap_grammar.specs.Several.{several, some_of, in_parenthesis}
use Rattle.acap_grammar.specs.Marks as mark
use Rattle.acap_grammar.specs.Arguments.{named_at}
use Rattle.acap_grammar.specs.Storing.{once}

-- the tokens that are left, after a value or from a fault on
abbrev pub left_in : {A : Type 0} → Read A → List Token
left_in (Ok x) = x.1
left_in (Err e) = e.left

-- the same with others left
abbrev pub leaving : {A : Type 0} → Read A → List Token → Read A
leaving (Ok x) left = Ok (x.0, left)
leaving (Err e) left = fault_here left e.fault

-- the tokens before that one, with which it is read the same whatever stands after it
pub record Front {A : Type 0} (read : List Token → Read A) (tokens : List Token) (r : Read A) (t : Token) (left : List Token) : Type 0 where
  pub front : List Token
  pub whole : tokens ≡ front ++ t ∷ left
  pub same : (other : List Token) → read (front ++ t ∷ other) ≡ leaving r (t ∷ other)

-- a reader that looks no further than at the first token left, and where none is left misses an argument or nothing
pub record Looks {A : Type 0} (read : List Token → Read A) : Type 0 where
  pub ahead : (tokens : List Token) (r : Read A) (t : Token) (left : List Token) → read tokens ≡ r → left_in r ≡ t ∷ left → Front read tokens r t left
  pub at_end : (tokens : List Token) (e : Fault) → read tokens ≡ Err e → e.left ≡ [] → e.fault ≡ fault.Arguments

no_front : (front : List Token) (t : Token) (left : List Token) → [] ≡ front ++ t ∷ left → ⊥
no_front [] t left e = absurd cc
no_front (u ∷ front) t left e = absurd cc

pub nothing_left : {A : Type 0} (read : List Token → Read A) → Looks read → left_in (read []) ≡ []
nothing_left {A} read p = by_left (left_in (read [])) refl where
  by_left : (left : List Token) → left_in (read []) ≡ left → left_in (read []) ≡ []
  by_left [] e = e
  by_left (t ∷ left) e = let g = p.ahead [] (read []) t left refl e in absurd (no_front g.front t left g.whole)

leaving_left : {A : Type 0} (r : Read A) (left : List Token) → left_in (leaving r left) ≡ left
leaving_left (Ok x) left = refl
leaving_left (Err e) left = refl

leaving_twice : {A : Type 0} (r : Read A) (a b : List Token) → leaving (leaving r a) b ≡ leaving r b
leaving_twice (Ok x) a b = refl
leaving_twice (Err e) a b = refl

-- ---- one reader after another

join : {A B : Type 0} (read : List Token → Read A) (f : A × List Token → Read B) (tokens : List Token) (r : Read B) (t : Token) (left : List Token) (x : A) (u : Token) (rest : List Token)
    → Front read tokens (Ok (x, u ∷ rest)) u rest → (front : List Token) → u ∷ rest ≡ front ++ t ∷ left → ((other : List Token) → f (x, front ++ t ∷ other) ≡ leaving r (t ∷ other))
    → Front (λ ts. read ts >>= f) tokens r t left
join read f tokens r t left x u rest g [] e same =
    let first : u ≡ t = cc in
    record {
      front = g.front;
      whole = g.whole ∙ ap (λ (l : List Token). g.front ++ l) e;
      same = λ other. let s : read (g.front ++ t ∷ other) ≡ Ok (x, t ∷ other) = subst (λ (v : Token). read (g.front ++ v ∷ other) ≡ Ok (x, v ∷ other)) first (g.same other) in rw s (same other);
    }
join read f tokens r t left x u rest g (v ∷ front) e same =
    let first : u ≡ v = cc in
    record {
      front = g.front ++ v ∷ front;
      whole = g.whole ∙ ap (λ (l : List Token). g.front ++ l) e ∙ sym (append_assoc g.front (v ∷ front) (t ∷ left));
      same = λ other.
          let s : read (g.front ++ v ∷ (front ++ t ∷ other)) ≡ Ok (x, v ∷ (front ++ t ∷ other)) =
          subst (λ (w : Token). read (g.front ++ w ∷ (front ++ t ∷ other)) ≡ Ok (x, w ∷ (front ++ t ∷ other))) first (g.same (front ++ t ∷ other)) in
          rw (append_assoc g.front (v ∷ front) (t ∷ other), s) (same other);
    }

bind_ahead : {A B : Type 0} (read : List Token → Read A) (f : A × List Token → Read B) → Looks read → ((x : A) → Looks (λ ts. f (x, ts)))
    → (tokens : List Token) (r : Read B) (t : Token) (left : List Token) (first : Read A) → read tokens ≡ first → (first >>= f) ≡ r → left_in r ≡ t ∷ left → Front (λ ts. read ts >>= f) tokens r t left
bind_ahead read f p q tokens r t left (Ok (x, [])) e m l = let g = (q x).ahead [] r t left m l in absurd (no_front g.front t left g.whole)
bind_ahead read f p q tokens r t left (Ok (x, u ∷ rest)) e m l =
    let g = (q x).ahead (u ∷ rest) r t left m l in
    join read f tokens r t left x u rest (p.ahead tokens (Ok (x, u ∷ rest)) u rest e refl) g.front g.whole g.same
bind_ahead {A} {B} read f p q tokens (Ok y) t left (Err d) e m l = absurd cc
bind_ahead {A} {B} read f p q tokens (Err d2) t left (Err d) e m l =
    let same : d ≡ d2 = cc in
    let g = p.ahead tokens (Err d) t left e (ap (λ (x : Fault). x.left) same ∙ l) in
    record { front = g.front; whole = g.whole; same = λ other. rw (g.same other, same) refl }

bind_end : {A B : Type 0} (read : List Token → Read A) (f : A × List Token → Read B) → Looks read → ((x : A) → Looks (λ ts. f (x, ts)))
    → (tokens : List Token) (e : Fault) (first : Read A) → read tokens ≡ first → (first >>= f) ≡ Err e → e.left ≡ [] → e.fault ≡ fault.Arguments
bind_end read f p q tokens e (Ok x) m n l = (q x.0).at_end x.1 e n l
bind_end read f p q tokens e (Err d) m n l = let same : d ≡ e = cc in p.at_end tokens e (rw (← same) m) l

pub bind : {A B : Type 0} (read : List Token → Read A) (f : A × List Token → Read B) → Looks read → ((x : A) → Looks (λ ts. f (x, ts))) → Looks (λ ts. read ts >>= f)
bind read f p q = record {
  ahead = λ tokens r t left e l. bind_ahead read f p q tokens r t left (read tokens) refl e l;
  at_end = λ tokens e m l. bind_end read f p q tokens e (read tokens) refl m l;
}

-- a value, and the tokens as they are
pub value : {A : Type 0} (x : A) → Looks (λ (ts : List Token). Ok (x, ts))
value {A} x = record { ahead = ahead; at_end = λ tokens e m l. absurd cc } where
  ahead : (tokens : List Token) (r : Read A) (t : Token) (left : List Token) → Ok (x, tokens) ≡ r → left_in r ≡ t ∷ left → Front (λ ts. Ok (x, ts)) tokens r t left
  ahead tokens (Err e) t left m l = absurd cc
  ahead tokens (Ok y) t left m l =
      let same : (x, tokens) ≡ y = cc in
      record { front = []; whole = ap (λ (z : A × List Token). z.1) same ∙ l; same = λ other. ap (λ (z : A × List Token). Ok (z.0, t ∷ other)) same }

-- ---- by the first token

-- what a reader does with it: it stops there, or goes on after it
pub data At {A : Type 0} (read : List Token → Read A) (t : Token) : Type 0 where
  Stops : (verdict : Read A) → ((rest : List Token) → read (t ∷ rest) ≡ leaving verdict (t ∷ rest)) → At read t
  Goes : (next : List Token → Read A) → Looks next → ((rest : List Token) → read (t ∷ rest) ≡ next rest) → At read t

pub behind_first : {A : Type 0} (read next : List Token → Read A) (t0 : Token) (rest : List Token) (r : Read A) (t : Token) (left : List Token)
    → ((more : List Token) → read (t0 ∷ more) ≡ next more) → Front next rest r t left → Front read (t0 ∷ rest) r t left
behind_first read next t0 rest r t left is g = record { front = t0 ∷ g.front; whole = ap (λ (l : List Token). t0 ∷ l) g.whole; same = λ other. is (g.front ++ t ∷ other) ∙ g.same other }

pub stops_there : {A : Type 0} (read : List Token → Read A) (t0 : Token) (rest : List Token) (r verdict : Read A) (t : Token) (left : List Token)
    → ((more : List Token) → read (t0 ∷ more) ≡ leaving verdict (t0 ∷ more)) → leaving verdict (t0 ∷ rest) ≡ r → left_in r ≡ t ∷ left → Front read (t0 ∷ rest) r t left
stops_there read t0 rest r verdict t left is e l =
    let all : t0 ∷ rest ≡ t ∷ left = sym (leaving_left verdict (t0 ∷ rest)) ∙ ap left_in e ∙ l in
    let first : t0 ≡ t = cc in
    record {
      front = [];
      whole = all;
      same = λ other. subst (λ (u : Token). read (u ∷ other) ≡ leaving r (u ∷ other)) first (is other ∙ sym (leaving_twice verdict (t0 ∷ rest) (t0 ∷ other)) ∙ ap (λ (x : Read _). leaving x (t0 ∷ other)) e);
    }

by_token_ahead : {A : Type 0} (read : List Token → Read A) → left_in (read []) ≡ [] → ((t : Token) → At read t)
    → (tokens : List Token) (r : Read A) (t : Token) (left : List Token) → read tokens ≡ r → left_in r ≡ t ∷ left → Front read tokens r t left
by_token_ahead read n at [] r t left e l = let p : [] ≡ t ∷ left = sym n ∙ ap left_in e ∙ l in absurd cc
by_token_ahead read n at (t0 ∷ rest) r t left e l = elim (at t0) [
  | Stops verdict is ↦ stops_there read t0 rest r verdict t left is (sym (is rest) ∙ e) l
  | Goes next p is ↦ behind_first read next t0 rest r t left is (p.ahead rest r t left (sym (is rest) ∙ e) l)
]

stopped : {A : Type 0} (verdict : Read A) (t : Token) (rest : List Token) (e : Fault) → leaving verdict (t ∷ rest) ≡ Err e → e.left ≡ [] → ⊥
stopped verdict t rest e m l = let p : t ∷ rest ≡ [] = sym (leaving_left verdict (t ∷ rest)) ∙ ap left_in m ∙ l in absurd cc

by_token_end : {A : Type 0} (read : List Token → Read A) → ((e : Fault) → read [] ≡ Err e → e.fault ≡ fault.Arguments) → ((t : Token) → At read t)
    → (tokens : List Token) (e : Fault) → read tokens ≡ Err e → e.left ≡ [] → e.fault ≡ fault.Arguments
by_token_end read n at [] e m l = n e m
by_token_end read n at (t0 ∷ rest) e m l = elim (at t0) [
  | Stops verdict is ↦ absurd (stopped verdict t0 rest e (sym (is rest) ∙ m) l)
  | Goes next p is ↦ p.at_end rest e (sym (is rest) ∙ m) l
]

-- where none is left, an argument is missing, or a value is read of nothing
pub record Begins {A : Type 0} (read : List Token → Read A) : Type 0 where
  pub none : left_in (read []) ≡ []
  pub missing : (e : Fault) → read [] ≡ Err e → e.fault ≡ fault.Arguments

pub by_token : {A : Type 0} (read : List Token → Read A) → Begins read → ((t : Token) → At read t) → Looks read
by_token read b at = record { ahead = by_token_ahead read b.none at; at_end = by_token_end read b.missing at }

pub begins : {A : Type 0} (read : List Token → Read A) → read [] ≡ fault_here [] fault.Arguments → Begins read
begins read p = record { none = ap left_in p; missing = λ e m. let q : fault_here [] fault.Arguments ≡ Err e = sym p ∙ m in cc }

-- a reader that reads the same as another
pub same_as : {A : Type 0} (read other : List Token → Read A) → ((ts : List Token) → read ts ≡ other ts) → Looks other → Looks read
same_as read other is p = record {
  ahead = λ tokens r t left e l. let g = p.ahead tokens r t left (sym (is tokens) ∙ e) l in record { front = g.front; whole = g.whole; same = λ more. is _ ∙ g.same more };
  at_end = λ tokens e m l. p.at_end tokens e (sym (is tokens) ∙ m) l;
}

-- the same after the first token, whatever that is
pub past_first : {A : Type 0} (read : List Token → Read A) → Looks read → Looks (λ ts. read (drop 1 ts))
past_first read p = by_token _ (record { none = nothing_left read p; missing = λ e m. p.at_end [] e m (left_of_end e m) }) (λ t. Goes read p (λ rest. refl)) where
  left_of_end : (e : Fault) → read [] ≡ Err e → e.left ≡ []
  left_of_end e m = ap left_in (sym m) ∙ nothing_left read p

-- a test of the first token
pub record Glances (test : List Token → Bool) : Type 0 where
  pub only : (t : Token) (a b : List Token) → test (t ∷ a) ≡ test (t ∷ b)

same_test : (test : List Token → Bool) → Glances test → (front : List Token) (t : Token) (a b : List Token) → test (front ++ t ∷ a) ≡ test (front ++ t ∷ b)
same_test test g [] t a b = g.only t a b
same_test test g (u ∷ front) t a b = g.only u _ _

choose_ahead : {A : Type 0} (test : List Token → Bool) (x y : List Token → Read A) → Glances test → Looks x → Looks y → (tokens : List Token) (r : Read A) (t : Token) (left : List Token)
    → (b : Bool) → test tokens ≡ b → (if b then x tokens else y tokens) ≡ r → left_in r ≡ t ∷ left → Front (λ ts. if test ts then x ts else y ts) tokens r t left
choose_ahead test x y g p q tokens r t left true c e l =
    let f = p.ahead tokens r t left e l in
    record { front = f.front; whole = f.whole; same = λ other. let d : test (f.front ++ t ∷ other) ≡ true = same_test test g f.front t other left ∙ ap test (sym f.whole) ∙ c in rw d (f.same other) }
choose_ahead test x y g p q tokens r t left false c e l =
    let f = q.ahead tokens r t left e l in
    record { front = f.front; whole = f.whole; same = λ other. let d : test (f.front ++ t ∷ other) ≡ false = same_test test g f.front t other left ∙ ap test (sym f.whole) ∙ c in rw d (f.same other) }

choose_end : {A : Type 0} (x y : List Token → Read A) → Looks x → Looks y → (tokens : List Token) (e : Fault) (b : Bool) → (if b then x tokens else y tokens) ≡ Err e → e.left ≡ [] → e.fault ≡ fault.Arguments
choose_end x y p q tokens e true m l = p.at_end tokens e m l
choose_end x y p q tokens e false m l = q.at_end tokens e m l

pub choose : {A : Type 0} (test : List Token → Bool) (x y : List Token → Read A) → Glances test → Looks x → Looks y → Looks (λ ts. if test ts then x ts else y ts)
choose test x y g p q = record {
  ahead = λ tokens r t left e l. choose_ahead test x y g p q tokens r t left (test tokens) refl e l;
  at_end = λ tokens e m l. choose_end x y p q tokens e (test tokens) m l;
}

pub starting : (is : Kind → Bool) → Glances (mark.starts is)
unfolding mark.starts
starting is = record { only = λ t a b. refl }

pub ending : Glances mark.ends
unfolding mark.ends
ending = record { only = λ t a b. refl }

-- ---- strings and names

by_string : {A : Type 0} (named : List ℕ → Result A CommandFault) (t : Token) → At (named_at named) t
unfolding named_at mark.string_at
by_string {A} named t = by_kind (mark.is_string t.kind) refl (named t.value) refl where
  by_kind : (b : Bool) → mark.is_string t.kind ≡ b → (r : Result A CommandFault) → named t.value ≡ r → At (named_at named) t
  by_kind false e r n = Stops (fault_here [] fault.Arguments) (λ rest. rw e refl)
  by_kind true e (Ok x) n = Goes (λ rest. Ok (x, rest)) (value x) (λ rest. rw (e, n) refl)
  by_kind true e (Err f) n = Stops (fault_here [] f) (λ rest. rw (e, n) refl)

pub named : {A : Type 0} (read : List ℕ → Result A CommandFault) → Looks (named_at read)
unfolding named_at mark.string_at
named read = by_token _ (begins _ refl) (by_string read)

pub string : Looks mark.string_at
unfolding mark.string_at
string = by_token _ (begins _ refl) (λ t. by_kind t (mark.is_string t.kind) refl) where
  by_kind : (t : Token) (b : Bool) → mark.is_string t.kind ≡ b → At mark.string_at t
  by_kind t false e = Stops (fault_here [] fault.Arguments) (λ rest. rw e refl)
  by_kind t true e = Goes (λ rest. Ok (t.value, rest)) (value t.value) (λ rest. rw e refl)

-- a name that didn't stand before
pub new_name : {A B : Type 0} (read : List ℕ → Result A CommandFault) (stood : A → Bool) (f : A → List Token → Read B) → ((x : A) → Looks (f x))
    → Looks (λ ts. named_at read ts >>= λ x. verdict_at ts (once (stood x.0)) >>= λ new. f x.0 x.1)
unfolding named_at mark.string_at
new_name {A} {B} read stood f p = by_token _ (begins _ refl) at where
  at : (t : Token) → At (λ ts. named_at read ts >>= λ x. verdict_at ts (once (stood x.0)) >>= λ new. f x.0 x.1) t
  at t = by_kind (mark.is_string t.kind) refl (read t.value) refl where
    by_kind : (b : Bool) → mark.is_string t.kind ≡ b → (r : Result A CommandFault) → read t.value ≡ r → At (λ ts. named_at read ts >>= λ x. verdict_at ts (once (stood x.0)) >>= λ new. f x.0 x.1) t
    by_kind false e r n = Stops (fault_here [] fault.Arguments) (λ rest. rw e refl)
    by_kind true e (Err d) n = Stops (fault_here [] d) (λ rest. rw (e, n) refl)
    by_kind true e (Ok x) n = by_stood (stood x) refl where
      by_stood : (c : Bool) → stood x ≡ c → At (λ ts. named_at read ts >>= λ y. verdict_at ts (once (stood y.0)) >>= λ new. f y.0 y.1) t
      by_stood false s = Goes (f x) (p x) (λ rest. rw (e, n, s) refl)
      by_stood true s = Stops (fault_here [] fault.NotPermittedTwice) (λ rest. rw (e, n, s) refl)

-- after a token of a kind
pub behind : {A : Type 0} (is : Kind → Bool) (f : List Token → Read A) → Looks f → Looks (λ ts. mark.behind is ts >>= f)
unfolding mark.behind
behind {A} is f p = by_token _ (begins _ refl) (λ t. by_kind t (is t.kind) refl) where
  by_kind : (t : Token) (b : Bool) → is t.kind ≡ b → At (λ ts. mark.behind is ts >>= f) t
  by_kind t false e = Stops (fault_here [] fault.Arguments) (λ rest. rw e refl)
  by_kind t true e = Goes f p (λ rest. rw e refl)

-- ---- words

-- what is read by a word of a table
pub worded : {W A : Type 0} (table : List (List ℕ × W)) (g : List Token → Option (W × List Token) → Read A) → ((ts : List Token) → g ts None ≡ fault_here ts fault.Arguments)
    → ((t : Token) (w : W) → At (λ ts. g ts (Some (w, drop 1 ts))) t) → Looks (λ ts. g ts (mark.word_at table ts))
unfolding mark.word_at
worded {W} {A} table g none some = by_token _ (begins _ (none [])) (λ t. by_kind t (mark.is_word t.kind) refl (mark.word_in table t.value) refl) where
  by_kind : (t : Token) (b : Bool) → mark.is_word t.kind ≡ b → (o : Option W) → mark.word_in table t.value ≡ o → At (λ ts. g ts (mark.word_at table ts)) t
  by_kind t false e o n = Stops (fault_here [] fault.Arguments) (λ rest. rw e (none (t ∷ rest)))
  by_kind t true e None n = Stops (fault_here [] fault.Arguments) (λ rest. rw (e, n) (none (t ∷ rest)))
  by_kind t true e (Some w) n = elim (some t w) [
    | Stops verdict is ↦ Stops verdict (λ rest. rw (e, n) (is rest))
    | Goes next p is ↦ Goes next p (λ rest. rw (e, n) (is rest))
  ]

-- what is judged of a word, before what stands after it
pub judged_first : {A : Type 0} (judgement : Result (Unit {0}) CommandFault) (next : List Token → Read A) → Looks next → (t : Token) → At (λ ts. verdict_at ts judgement >>= λ new. next (drop 1 ts)) t
judged_first (Ok x) next p t = Goes next p (λ rest. refl)
judged_first (Err f) next p t = Stops (fault_here [] f) (λ rest. refl)

-- whether a word of a table stands first
pub worded_first : {W : Type 0} (table : List (List ℕ × W)) → Glances (λ ts. is_none (mark.word_at table ts))
unfolding mark.word_at
worded_first {W} table = record { only = λ t a b. by_kind a b (mark.is_word t.kind) (mark.word_in table t.value) } where
  by_kind : (a b : List Token) (c : Bool) (o : Option W)
      → is_none {T = W × List Token} (if c then option_map (λ x. (x, a)) o else None) ≡ is_none {T = W × List Token} (if c then option_map (λ x. (x, b)) o else None)
  by_kind a b false o = refl
  by_kind a b true None = refl
  by_kind a b true (Some w) = refl

-- what is read where that word stands first, and where not
pub flagged : {A : Type 0} (text : List ℕ) (g : List Token → Option (List Token) → Read A) (next : List Token → Read A) → Looks (λ ts. g ts None) → Looks next
    → ((ts rest : List Token) → g ts (Some rest) ≡ next rest) → Looks (λ ts. g ts (mark.behind_word text ts))
unfolding mark.behind_word
flagged {A} text g next p q is = same_as _ _ by_form (choose stands (λ ts. next (drop 1 ts)) (λ ts. g ts None) (record { only = λ t a b. refl }) (past_first next q) p) where
  stands : List Token → Bool
  stands [] = false
  stands (t ∷ rest) = if mark.is_word t.kind then str_eq_ignore_ascii_case t.value text else false

  by_form : (ts : List Token) → g ts (mark.behind_word text ts) ≡ (if stands ts then next (drop 1 ts) else g ts None)
  by_form [] = refl
  by_form (t ∷ rest) = by_tests (mark.is_word t.kind) (str_eq_ignore_ascii_case t.value text) where
    by_tests : (b c : Bool) → g (t ∷ rest) (if b then (if c then Some rest else None) else None) ≡ (if (if b then c else false) then next rest else g (t ∷ rest) None)
    by_tests false c = refl
    by_tests true false = refl
    by_tests true true = is (t ∷ rest) rest

-- ---- items one after the other

-- a further item, where there is room for none
abbrev limit : {A : Type 0} → Bool → Bool → A → List Token → Read A
limit over fits seen ts = if over then Ok (seen, ts) else fault_here ts (if fits then fault.TooMany else fault.Arguments)

limit_left : {A : Type 0} (over fits : Bool) (seen : A) (ts : List Token) → limit over fits seen ts ≡ leaving (limit over fits seen []) ts
limit_left true fits seen ts = refl
limit_left false true seen ts = refl
limit_left false false seen ts = refl

at_limit : {A : Type 0} (over fits : List Token → Bool) → Glances over → Glances fits → (seen : A) (t : Token) → At (λ ts. limit (over ts) (fits ts) seen ts) t
at_limit over fits o f seen t = Stops (limit (over (t ∷ [])) (fits (t ∷ [])) seen []) (λ rest. rw (o.only t rest [], f.only t rest []) (limit_left (over (t ∷ [])) (fits (t ∷ [])) seen (t ∷ rest)))

limit_end : {A : Type 0} (over fits : Bool) (seen : A) → over ≡ true ⊎ fits ≡ false → (e : Fault) → limit over fits seen [] ≡ Err e → e.fault ≡ fault.Arguments
limit_end true fits seen n e m = absurd cc
limit_end false false seen n e m = let same : record { fault = fault.Arguments; left = [] } ≡ e = cc in ap (λ (x : Fault). x.fault) (sym same)
limit_end false true seen (inl p) e m = absurd cc
limit_end false true seen (inr p) e m = absurd cc

at_end_of : {A : Type 0} (over fits : List Token → Bool) (seen : A) → over [] ≡ true ⊎ fits [] ≡ false → Begins (λ ts. limit (over ts) (fits ts) seen ts)
at_end_of over fits seen n = record { none = ap left_in (limit_left (over []) (fits []) seen []) ∙ leaving_left _ []; missing = limit_end (over []) (fits []) seen n }

pub items : {A : Type 0} (over fits : List Token → Bool) (item : A → List Token → Read A) → Glances over → Glances fits → over [] ≡ true ⊎ fits [] ≡ false → ((seen : A) → Looks (item seen))
    → (room : ℕ) (seen : A) → Looks (several over fits item room seen)
unfolding several
items over fits item o f n p zero seen = by_token _ (at_end_of over fits seen n) (at_limit over fits o f seen)
items over fits item o f n p (suc room) seen = choose over _ _ o (value seen) (bind (item seen) _ (p seen) (λ x. items over fits item o f n p room x))

pub some_items : {A : Type 0} (over fits : List Token → Bool) (item : A → List Token → Read A) → Glances over → Glances fits → over [] ≡ true ⊎ fits [] ≡ false → ((seen : A) → Looks (item seen))
    → (most : ℕ) (none : A) → Looks (some_of over fits item most none)
unfolding some_of
some_items over fits item o f n p most none = bind (item none) _ (p none) (λ x. items over fits item o f n p (most - 1) x)

-- in a parenthesis
pub enclosed_items : {A : Type 0} (is : Kind → Bool) (item : A → List Token → Read A) → ((seen : A) → Looks (item seen)) → (most : ℕ) (none : A) → Looks (in_parenthesis (mark.starts mark.is_close) (mark.starts is) item most none)
unfolding in_parenthesis mark.starts
enclosed_items is item p most none =
    behind mark.is_open _ (bind _ _ (some_items (mark.starts mark.is_close) (mark.starts is) item (starting mark.is_close) (starting is) (inr refl) p most none) (λ x. behind mark.is_close _ (value x)))
