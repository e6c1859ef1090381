-- What is known of the values that readers give.
use Rattle.std.proofs.Common.{◌≡◌, ℕ, zero, suc, ◌-◌, ◌≤◌, Bool, true, false, List, [], ◌∷◌, ◌++◌, length, Option, Some, None, Result, Ok, Err, refl, sym, ap, subst, ◌∙◌, arith, append_assoc}
use Rattle.std.specs.Prelude.{if◌then◌else◌}
use Rattle.std.proofs.lemmas.List.{append-nil}
use Rattle.acap_lexer.specs.declared.kind.Kind.{Kind}
use Rattle.acap_lexer.specs.Token.{Token}
use Rattle.acap_grammar.specs.declared.command_fault.CommandFault.{CommandFault}
use Rattle.acap_grammar.specs.Outcome.{◌>>=◌, Fault, Read, verdict_at}
use Rattle.acap_grammar.specs.Several.{several, some_of, in_parenthesis}
use Rattle.acap_grammar.specs.Marks as mark
use Rattle.acap_grammar.specs.Arguments.{named_at}
use Rattle.acap_grammar.specs.Sendable.{Each, OneTo}
use Rattle.acap_grammar.specs.Storing.{once}

pub record Yields {A : Type 0} (read : List Token → Read A) (P : A → Type 0) : Type 0 where
  pub gives : (ts : List Token) (x : A × List Token) → read ts ≡ Ok x → P x.0

-- ---- one reader after another

-- the second also looks at the tokens of the first
pub bind_all : {A B : Type 0} (P : A → Type 0) (Q : B → Type 0) (read : List Token → Read A) (f : List Token → A × List Token → Read B) → Yields read P
    → ((x : A) → P x → (ts rest : List Token) (y : B × List Token) → f ts (x, rest) ≡ Ok y → Q y.0) → Yields (λ ts. read ts >>= f ts) Q
bind_all {A} {B} P Q read f p q = record { gives = λ ts y e. by_read ts y (read ts) refl e } where
  by_read : (ts : List Token) (y : B × List Token) (r : Read A) → read ts ≡ r → (r >>= f ts) ≡ Ok y → Q y.0
  by_read ts y (Ok x) m e = q x.0 (p.gives ts x m) ts x.1 y e
  by_read ts y (Err d) m e = absurd cc

pub bind : {A B : Type 0} (P : A → Type 0) (Q : B → Type 0) (read : List Token → Read A) (f : A × List Token → Read B) → Yields read P → ((x : A) → P x → Yields (λ ts. f (x, ts)) Q) → Yields (λ ts. read ts >>= f) Q
bind P Q read f p q = bind_all P Q read (λ ts x. f x) p (λ x h ts rest y e. (q x h).gives rest y e)

-- whatever the first gives
pub any : {A : Type 0} (read : List Token → Read A) → Yields read (λ x. Unit {0})
any read = record { gives = λ ts x e. tt }

pub value : {A : Type 0} (P : A → Type 0) (x : A) → P x → Yields (λ (ts : List Token). Ok (x, ts)) P
value {A} P x h = record { gives = λ ts y e. let same : (x, ts) ≡ y = cc in subst P (ap (λ (z : A × List Token). z.0) same) h }

pub choose : {A : Type 0} (P : A → Type 0) (test : List Token → Bool) (x y : List Token → Read A) → Yields x P → Yields y P → Yields (λ ts. if test ts then x ts else y ts) P
choose {A} P test x y p q = record { gives = λ ts z e. by_test ts z (test ts) e } where
  by_test : (ts : List Token) (z : A × List Token) (b : Bool) → (if b then x ts else y ts) ≡ Ok z → P z.0
  by_test ts z true e = p.gives ts z e
  by_test ts z false e = q.gives ts z e

-- after a token of a kind
pub behind : {A : Type 0} (P : A → Type 0) (is : Kind → Bool) (f : List Token → Read A) → Yields f P → Yields (λ ts. mark.behind is ts >>= f) P
behind {A} P is f p = record { gives = λ ts x e. by_mark x (mark.behind is ts) e } where
  by_mark : (x : A × List Token) (r : Result (List Token) Fault) → (r >>= f) ≡ Ok x → P x.0
  by_mark x (Ok rest) e = p.gives rest x e
  by_mark x (Err d) e = absurd cc

-- ---- names

-- a text that is read so
pub record IsNamed {A : Type 0} (read : List ℕ → Result A CommandFault) (x : A) : Type 0 where
  pub text : List ℕ
  pub is : read text ≡ Ok x

pub named : {A : Type 0} (read : List ℕ → Result A CommandFault) → Yields (named_at read) (IsNamed read)
unfolding named_at
named {A} read = record { gives = λ ts x e. by_string ts x (mark.string_at ts) e } where
  by_judge : (ts : List Token) (x : A × List Token) (t : List ℕ × List Token) (j : Result A CommandFault) → read t.0 ≡ j → (verdict_at ts j >>= λ n. Ok (n, t.1)) ≡ Ok x → IsNamed read x.0
  by_judge ts x t (Ok n) m e =
      let same : (n, t.1) ≡ x = cc in
      record { text = t.0; is = m ∙ ap (λ (z : A × List Token). Ok z.0) same }
  by_judge ts x t (Err d) m e = absurd cc

  by_string : (ts : List Token) (x : A × List Token) (r : Read (List ℕ)) → (r >>= λ t. verdict_at ts (read t.0) >>= λ n. Ok (n, t.1)) ≡ Ok x → IsNamed read x.0
  by_string ts x (Ok t) e = by_judge ts x t (read t.0) refl e
  by_string ts x (Err d) e = absurd cc

-- what is read past a word or name that may stand once
pub past_once : {A : Type 0} (stood : Bool) (ts : List Token) (r : Read A) (y : A × List Token) → (verdict_at ts (once stood) >>= λ new. r) ≡ Ok y → (stood ≡ false) × (r ≡ Ok y)
past_once false ts r y e = (refl, e)
past_once true ts r y e = absurd cc

-- a name that didn't stand before
pub new_name : {A B : Type 0} (Q : B → Type 0) (read : List ℕ → Result A CommandFault) (stood : A → Bool) (f : A → List Token → Read B)
    → ((x : A) → IsNamed read x → stood x ≡ false → Yields (f x) Q) → Yields (λ ts. named_at read ts >>= λ x. verdict_at ts (once (stood x.0)) >>= λ new. f x.0 x.1) Q
new_name Q read stood f p =
    bind_all (IsNamed read) Q _ _ (named read) (λ x h ts rest y e. let o = past_once (stood x) ts (f x rest) y e in (p x h o.0).gives rest y o.1)

-- what is read by a word of a table
pub worded : {W A : Type 0} (P : A → Type 0) (table : List (List ℕ × W)) (g : List Token → Option (W × List Token) → Read A)
    → ((ts : List Token) (y : A × List Token) → g ts None ≡ Ok y → P y.0) → ((w : W) (ts rest : List Token) (y : A × List Token) → g ts (Some (w, rest)) ≡ Ok y → P y.0)
    → Yields (λ ts. g ts (mark.word_at table ts)) P
worded {W} {A} P table g none some = record { gives = λ ts y e. by_word ts y (mark.word_at table ts) e } where
  by_word : (ts : List Token) (y : A × List Token) (o : Option (W × List Token)) → g ts o ≡ Ok y → P y.0
  by_word ts y None e = none ts y e
  by_word ts y (Some x) e = some x.0 ts x.1 y e

pub no_fault : {A : Type 0} (P : A → Type 0) (e : Fault) (y : A × List Token) → ◌≡◌ {A = Read A} (Err e) (Ok y) → P y.0
no_fault P d y e = absurd cc

-- ---- items one after the other

-- an item, and what follows it, or no item
pub next_item : {A : Type 0} (P S : A → Type 0) (over fits : List Token → Bool) (item : A → List Token → Read A) (room : ℕ) (seen : A)
    → P seen → Yields (item seen) S → ((x : A) → S x → Yields (several over fits item room x) P) → Yields (several over fits item (suc room) seen) P
unfolding several
next_item P S over fits item room seen h p q = choose P over _ _ (value P seen h) (bind S P (item seen) _ p q)

pub no_item : {A : Type 0} (P : A → Type 0) (over fits : List Token → Bool) (item : A → List Token → Read A) (seen : A) → P seen → Yields (several over fits item zero seen) P
unfolding several
no_item P over fits item seen h = choose P over _ _ (value P seen h) (record { gives = λ ts y e. absurd cc })

-- what each item leaves true
pub kept : {A : Type 0} (P : A → Type 0) (over fits : List Token → Bool) (item : A → List Token → Read A) → ((seen : A) → P seen → Yields (item seen) P)
    → (room : ℕ) (seen : A) → P seen → Yields (several over fits item room seen) P
kept P over fits item p zero seen h = no_item P over fits item seen h
kept P over fits item p (suc room) seen h = next_item P P over fits item room seen h (p seen h) (λ x k. kept P over fits item p room x k)

-- one after those seen
pub record AddsOne {X : Type 0} (Suits : List X → X → Type 0) (seen all : List X) : Type 0 where
  pub added : X
  pub whole : all ≡ seen ++ added ∷ []
  pub suits : Suits seen added

-- so many at most after those seen
pub record Adds {X : Type 0} (Suits : List X → X → Type 0) (room : ℕ) (seen all : List X) : Type 0 where
  pub added : List X
  pub whole : all ≡ seen ++ added
  pub few : length added ≤ room
  pub each : Each Suits seen added

adds_none : {X : Type 0} (Suits : List X → X → Type 0) (room : ℕ) (seen : List X) → Adds Suits room seen seen
adds_none Suits room seen = record { added = []; whole = sym (append-nil seen); few = omega arith; each = tt }

adds_more : {X : Type 0} (Suits : List X → X → Type 0) (room : ℕ) (seen next all : List X) → AddsOne Suits seen next → Adds Suits room next all → Adds Suits (suc room) seen all
adds_more {X} Suits room seen next all a b = record {
  added = a.added ∷ b.added;
  whole = b.whole ∙ ap (λ (xs : List X). xs ++ b.added) a.whole ∙ append_assoc seen (a.added ∷ []) b.added;
  few = omega (arith, b.few);
  each = (a.suits, subst (λ (xs : List X). Each Suits xs b.added) a.whole b.each);
}

pub list_items : {X : Type 0} (Suits : List X → X → Type 0) (over fits : List Token → Bool) (item : List X → List Token → Read (List X)) → ((seen : List X) → Yields (item seen) (AddsOne Suits seen))
    → (room : ℕ) (seen : List X) → Yields (several over fits item room seen) (Adds Suits room seen)
list_items Suits over fits item p zero seen = no_item _ over fits item seen (adds_none Suits zero seen)
list_items Suits over fits item p (suc room) seen =
    next_item (Adds Suits (suc room) seen) (AddsOne Suits seen) over fits item room seen (adds_none Suits (suc room) seen) (p seen)
    (λ next a. record { gives = λ ts y e. adds_more Suits room seen next y.0 a ((list_items Suits over fits item p room next).gives ts y e) })

-- one or more
pub some_items : {X : Type 0} (Suits : List X → X → Type 0) (over fits : List Token → Bool) (item : List X → List Token → Read (List X)) → ((seen : List X) → Yields (item seen) (AddsOne Suits seen))
    → (room : ℕ) → Yields (some_of over fits item (suc room) []) (λ all. OneTo (suc room) all × Each Suits [] all)
unfolding some_of
some_items {X} Suits over fits item p room =
    bind (AddsOne Suits []) (λ all. OneTo (suc room) all × Each Suits [] all) (item []) _ (p [])
    (λ next a. record { gives = λ ts y e. whole next y.0 a ((list_items Suits over fits item p (suc room - 1) next).gives ts y e) }) where
      whole : (next all : List X) → AddsOne Suits [] next → Adds Suits (suc room - 1) next all → OneTo (suc room) all × Each Suits [] all
      whole next all a b =
          let is : all ≡ a.added ∷ b.added = b.whole ∙ ap (λ (xs : List X). xs ++ b.added) a.whole in
          let size = ap (λ (xs : List X). length xs) is in
          let each : Each Suits [] (a.added ∷ b.added) = (a.suits, subst (λ (xs : List X). Each Suits xs b.added) a.whole b.each) in
          ((omega (arith, size), omega (arith, size, b.few)), subst (λ (xs : List X). Each Suits [] xs) (sym is) each)

-- the same in a parenthesis
pub enclosed_items : {X : Type 0} (Suits : List X → X → Type 0) (is : Kind → Bool) (item : List X → List Token → Read (List X)) → ((seen : List X) → Yields (item seen) (AddsOne Suits seen))
    → (room : ℕ) → Yields (in_parenthesis (mark.starts mark.is_close) (mark.starts is) item (suc room) []) (λ all. OneTo (suc room) all × Each Suits [] all)
unfolding in_parenthesis
enclosed_items {X} Suits is item p room =
    behind _ mark.is_open _ (bind (λ all. OneTo (suc room) all × Each Suits [] all) (λ all. OneTo (suc room) all × Each Suits [] all) _ _ (some_items Suits _ _ item p room) (λ all h. behind _ mark.is_close _ (value _ all h)))
