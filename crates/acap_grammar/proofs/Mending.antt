-- What a reader took before a fault begins something that it reads.
use Rattle.std.proofs.Common.{◌≡◌, ℕ, zero, suc, ◌-◌, Bool, true, false, List, [], ◌∷◌, ◌++◌, length, Ok, Err, refl, sym, ap, subst, ◌∙◌, append_assoc, length-append, arith, ◌⊎◌, inl, inr}
use Rattle.std.specs.Prelude.{if◌then◌else◌}
use Rattle.acap_lexer.specs.Token.{Token}
use Rattle.acap_grammar.specs.declared.command_fault.CommandFault.{CommandFault}
use Rattle.acap_grammar.specs.declared.command_fault.CommandFault.TheVariants as fault
use Rattle.acap_grammar.specs.Outcome.{◌>>=◌, Fault, Read, fault_here}
use Rattle.acap_grammar.specs.Several.{several, some_of}
use Rattle.acap_grammar.proofs.Looking.{Glances}

-- any tokens may follow
abbrev pub any : List Token → Bool
any ts = true

-- what is read after these tokens and some others, whatever follows them that may
pub record Completes {A : Type 0} (read : List Token → Read A) (may : List Token → Bool) (front : List Token) : Type 0 where
  pub more : List Token
  pub value : A
  pub is : (rest : List Token) → may rest ≡ true → read (front ++ (more ++ rest)) ≡ Ok (value, rest)

-- the tokens before a fault: none, or such as can be gone on with
pub record Broken {A : Type 0} (read : List Token → Read A) (may : List Token → Bool) (tokens : List Token) (t : Token) (left : List Token) : Type 0 where
  pub front : List Token
  pub whole : tokens ≡ front ++ t ∷ left
  pub onward : (front ≡ []) ⊎ Completes read may front

-- the tokens of a value, which is read the same whatever follows that may, or begins as what followed
pub record Stayed {A : Type 0} (read : List Token → Read A) (may : List Token → Bool) (tokens : List Token) (x : A) (left : List Token) : Type 0 where
  pub front : List Token
  pub whole : tokens ≡ front ++ left
  pub is : (rest : List Token) → may rest ≡ true → read (front ++ rest) ≡ Ok (x, rest)
  pub same : (t : Token) (a b : List Token) → left ≡ t ∷ a → read (front ++ t ∷ b) ≡ Ok (x, t ∷ b)

pub record Mends {A : Type 0} (read : List Token → Read A) (may : List Token → Bool) : Type 0 where
  pub mend : (tokens : List Token) (e : Fault) (t : Token) (left : List Token) → read tokens ≡ Err e → e.left ≡ t ∷ left → (e.fault ≡ fault.TooDeep → ⊥) → Broken read may tokens t left
  pub stay : (tokens : List Token) (x : A) (left : List Token) → read tokens ≡ Ok (x, left) → Stayed read may tokens x left

-- something can be read, and begins so
pub record Begun {A : Type 0} (read : List Token → Read A) (may begin : List Token → Bool) : Type 0 where
  pub more : List Token
  pub value : A
  pub is : (rest : List Token) → may rest ≡ true → read (more ++ rest) ≡ Ok (value, rest)
  pub start : (rest : List Token) → may rest ≡ true → begin (more ++ rest) ≡ true

-- a reader that takes a token at least
abbrev pub Eats : {A : Type 0} → (List Token → Read A) → Type 0
Eats {A} read = (ts : List Token) (x : A) → read ts ≡ Ok (x, ts) → ⊥

-- what may follow the second of two readers may follow the first, or the second takes a token
abbrev pub Seam : {A : Type 0} → (List Token → Bool) → (List Token → Bool) → (List Token → Read A) → Type 0
Seam first second read = ((rest : List Token) → second rest ≡ true → first rest ≡ true) ⊎ Eats read

-- ---- one reader after another

join_stay : {A B : Type 0} (read : List Token → Read A) (f : A × List Token → Read B) (first second : List Token → Bool) (tokens : List Token) (x : A) (mid : List Token) (y : B) (left : List Token)
    → Stayed read first tokens x mid → Stayed (λ ts. f (x, ts)) second mid y left → f (x, mid) ≡ Ok (y, left) → Seam first second (λ ts. f (x, ts)) → Stayed (λ ts. read ts >>= f) second tokens y left
join_stay {A} {B} read f first second tokens x mid y left s r e seam = by_front r.front r.whole r.is r.same where
  follows : mid ≡ left → (rest : List Token) → second rest ≡ true → Seam first second (λ ts. f (x, ts)) → first rest ≡ true
  follows w rest h (inl g) = g rest h
  follows w rest h (inr eats) = absurd (eats left y (subst (λ (l : List Token). f (x, l) ≡ Ok (y, left)) w e))

  by_front : (front : List Token) → mid ≡ front ++ left → ((rest : List Token) → second rest ≡ true → f (x, front ++ rest) ≡ Ok (y, rest))
      → ((t : Token) (a b : List Token) → left ≡ t ∷ a → f (x, front ++ t ∷ b) ≡ Ok (y, t ∷ b)) → Stayed (λ ts. read ts >>= f) second tokens y left
  by_front [] w is same = record {
    front = s.front;
    whole = s.whole ∙ ap (λ (l : List Token). s.front ++ l) w;
    is = λ rest h. let p : read (s.front ++ rest) ≡ Ok (x, rest) = s.is rest (follows w rest h seam) in rw p (is rest h);
    same = λ t a b l. let p : read (s.front ++ t ∷ b) ≡ Ok (x, t ∷ b) = s.same t a b (w ∙ l) in rw p (same t a b l);
  }
  by_front (v ∷ front) w is same = record {
    front = s.front ++ v ∷ front;
    whole = s.whole ∙ ap (λ (l : List Token). s.front ++ l) w ∙ sym (append_assoc s.front (v ∷ front) left);
    is = λ rest h. let p : read (s.front ++ v ∷ (front ++ rest)) ≡ Ok (x, v ∷ (front ++ rest)) = s.same v (front ++ left) (front ++ rest) w in rw (append_assoc s.front (v ∷ front) rest, p) (is rest h);
    same = λ t a b l.
        let p : read (s.front ++ v ∷ (front ++ t ∷ b)) ≡ Ok (x, v ∷ (front ++ t ∷ b)) = s.same v (front ++ left) (front ++ t ∷ b) w in rw (append_assoc s.front (v ∷ front) (t ∷ b), p) (same t a b l);
  }

join_mend : {A B : Type 0} (read : List Token → Read A) (f : A × List Token → Read B) (first second : List Token → Bool) (tokens : List Token) (x : A) (mid : List Token) (t : Token) (left : List Token)
    → Stayed read first tokens x mid → Broken (λ ts. f (x, ts)) second mid t left → Begun (λ ts. f (x, ts)) second first → Broken (λ ts. read ts >>= f) second tokens t left
join_mend {A} {B} read f first second tokens x mid t left s r anew = by_front r.front r.whole r.onward where
  by_front : (front : List Token) → mid ≡ front ++ t ∷ left → (front ≡ []) ⊎ Completes (λ ts. f (x, ts)) second front → Broken (λ ts. read ts >>= f) second tokens t left
  by_front [] w o = record {
    front = s.front;
    whole = s.whole ∙ ap (λ (l : List Token). s.front ++ l) w;
    onward = inr (record {
      more = anew.more;
      value = anew.value;
      is = λ rest h. let p : read (s.front ++ (anew.more ++ rest)) ≡ Ok (x, anew.more ++ rest) = s.is (anew.more ++ rest) (anew.start rest h) in rw p (anew.is rest h);
    });
  }
  by_front (v ∷ front) w (inl n) = absurd cc
  by_front (v ∷ front) w (inr c) = record {
    front = s.front ++ v ∷ front;
    whole = s.whole ∙ ap (λ (l : List Token). s.front ++ l) w ∙ sym (append_assoc s.front (v ∷ front) (t ∷ left));
    onward = inr (record {
      more = c.more;
      value = c.value;
      is = λ rest h.
          let p : read (s.front ++ v ∷ (front ++ (c.more ++ rest))) ≡ Ok (x, v ∷ (front ++ (c.more ++ rest))) = s.same v (front ++ t ∷ left) (front ++ (c.more ++ rest)) w in
          rw (append_assoc s.front (v ∷ front) (c.more ++ rest), p) (c.is rest h);
    });
  }

join_first : {A B : Type 0} (P : A → Type 0) (read : List Token → Read A) (f : A × List Token → Read B) (first second : List Token → Bool) (tokens : List Token) (t : Token) (left : List Token)
    → Broken read first tokens t left → ((front : List Token) (c : Completes read first front) → P c.value) → ((x : A) → P x → Begun (λ ts. f (x, ts)) second first) → Broken (λ ts. read ts >>= f) second tokens t left
join_first {A} {B} P read f first second tokens t left b so anew = by_onward b.onward where
  by_onward : (b.front ≡ []) ⊎ Completes read first b.front → Broken (λ ts. read ts >>= f) second tokens t left
  by_onward (inl n) = record { front = b.front; whole = b.whole; onward = inl n }
  by_onward (inr c) =
      let n = anew c.value (so b.front c) in
      record {
        front = b.front;
        whole = b.whole;
        onward = inr (record {
          more = c.more ++ n.more;
          value = n.value;
          is = λ rest h.
              let p : read (b.front ++ (c.more ++ (n.more ++ rest))) ≡ Ok (c.value, n.more ++ rest) = c.is (n.more ++ rest) (n.start rest h) in
              rw (append_assoc c.more n.more rest, p) (n.is rest h);
        });
      }

bind_mend : {A B : Type 0} (P : A → Type 0) (read : List Token → Read A) (f : A × List Token → Read B) (first second : List Token → Bool) → Mends read first
    → ((tokens : List Token) (x : A) (left : List Token) → read tokens ≡ Ok (x, left) → P x) → ((front : List Token) (c : Completes read first front) → P c.value)
    → ((x : A) → P x → Mends (λ ts. f (x, ts)) second) → ((x : A) → P x → Begun (λ ts. f (x, ts)) second first)
    → (tokens : List Token) (e : Fault) (t : Token) (left : List Token) (r : Read A) → read tokens ≡ r → (r >>= f) ≡ Err e → e.left ≡ t ∷ left → (e.fault ≡ fault.TooDeep → ⊥)
    → Broken (λ ts. read ts >>= f) second tokens t left
bind_mend P read f first second p so more q anew tokens e t left (Ok x) m n l deep =
    let w = so tokens x.0 x.1 m in
    join_mend read f first second tokens x.0 x.1 t left (p.stay tokens x.0 x.1 m) ((q x.0 w).mend x.1 e t left n l deep) (anew x.0 w)
bind_mend P read f first second p so more q anew tokens e t left (Err d) m n l deep =
    let same : d ≡ e = cc in
    join_first P read f first second tokens t left (p.mend tokens e t left (rw (← same) m) l deep) more anew

bind_stay : {A B : Type 0} (P : A → Type 0) (read : List Token → Read A) (f : A × List Token → Read B) (first second : List Token → Bool) → Mends read first
    → ((tokens : List Token) (x : A) (left : List Token) → read tokens ≡ Ok (x, left) → P x)
    → ((x : A) → P x → Mends (λ ts. f (x, ts)) second) → ((x : A) → P x → Seam first second (λ ts. f (x, ts)))
    → (tokens : List Token) (y : B) (left : List Token) (r : Read A) → read tokens ≡ r → (r >>= f) ≡ Ok (y, left) → Stayed (λ ts. read ts >>= f) second tokens y left
bind_stay P read f first second p so q seam tokens y left (Ok x) m n =
    let w = so tokens x.0 x.1 m in
    join_stay read f first second tokens x.0 x.1 y left (p.stay tokens x.0 x.1 m) ((q x.0 w).stay x.1 y left n) n (seam x.0 w)
bind_stay P read f first second p so q seam tokens y left (Err d) m n = absurd cc

-- where the first value is such as the second reader wants
pub bind_so : {A B : Type 0} (P : A → Type 0) (read : List Token → Read A) (f : A × List Token → Read B) (first second : List Token → Bool) → Mends read first
    → ((tokens : List Token) (x : A) (left : List Token) → read tokens ≡ Ok (x, left) → P x) → ((rest : List Token) × (first rest ≡ true))
    → ((x : A) → P x → Mends (λ ts. f (x, ts)) second) → ((x : A) → P x → Begun (λ ts. f (x, ts)) second first) → ((x : A) → P x → Seam first second (λ ts. f (x, ts)))
    → Mends (λ ts. read ts >>= f) second
bind_so P read f first second p so some q anew seam = record {
  mend = λ tokens e t left m l deep. bind_mend P read f first second p so (λ front c. so (front ++ (c.more ++ some.0)) c.value some.0 (c.is some.0 some.1)) q anew tokens e t left (read tokens) refl m l deep;
  stay = λ tokens y left m. bind_stay P read f first second p so q seam tokens y left (read tokens) refl m;
}

abbrev Whatever : {A : Type 0} → A → Type 0
Whatever x = Unit {0}

pub bind : {A B : Type 0} (read : List Token → Read A) (f : A × List Token → Read B) (first second : List Token → Bool) → Mends read first
    → ((x : A) → Mends (λ ts. f (x, ts)) second) → ((x : A) → Begun (λ ts. f (x, ts)) second first) → ((x : A) → Seam first second (λ ts. f (x, ts)))
    → Mends (λ ts. read ts >>= f) second
bind read f first second p q anew seam = record {
  mend = λ tokens e t left m l deep. bind_mend Whatever read f first second p (λ tokens x left m. tt) (λ front c. tt) (λ x w. q x) (λ x w. anew x) tokens e t left (read tokens) refl m l deep;
  stay = λ tokens y left m. bind_stay Whatever read f first second p (λ tokens x left m. tt) (λ x w. q x) (λ x w. seam x) tokens y left (read tokens) refl m;
}

-- where anything may follow the first
pub after : {A B : Type 0} (read : List Token → Read A) (f : A × List Token → Read B) (second : List Token → Bool) → Mends read any
    → ((x : A) → Mends (λ ts. f (x, ts)) second) → ((x : A) → Begun (λ ts. f (x, ts)) second any) → Mends (λ ts. read ts >>= f) second
after read f second p q anew = bind read f any second p q anew (λ x. inl (λ rest h. refl))

pub value : {A : Type 0} (may : List Token → Bool) (x : A) → Mends (λ (ts : List Token). Ok (x, ts)) may
value {A} may x = record { mend = λ tokens e t left m l deep. absurd cc; stay = stay } where
  stay : (tokens : List Token) (y : A) (left : List Token) → ◌≡◌ {A = Read A} (Ok (x, tokens)) (Ok (y, left)) → Stayed (λ (ts : List Token). Ok (x, ts)) may tokens y left
  stay tokens y left m =
      let pair : ◌≡◌ {A = A × List Token} (x, tokens) (y, left) = cc in
      let same : x ≡ y = ap (λ (z : A × List Token). z.0) pair in
      record { front = []; whole = ap (λ (z : A × List Token). z.1) pair; is = λ rest h. ap (λ (z : A). Ok (z, rest)) same; same = λ t a b l. ap (λ (z : A). Ok (z, t ∷ b)) same }

pub nothing_more : {A : Type 0} (may : List Token → Bool) (x : A) → Begun (λ (ts : List Token). Ok (x, ts)) may may
nothing_more may x = record { more = []; value = x; is = λ rest h. refl; start = λ rest h. h }

pub anything : {A : Type 0} (read : List Token → Read A) (may begin : List Token → Bool) → Begun read may begin → Begun read may any
anything read may begin b = record { more = b.more; value = b.value; is = λ rest h. b.is rest h; start = λ rest h. refl }

-- a value that is made of another
pub made : {A B : Type 0} (read : List Token → Read A) (may : List Token → Bool) (make : A → B) → Mends read may → Mends (λ ts. read ts >>= λ x. Ok (make x.0, x.1)) may
made read may make p = bind read (λ x. Ok (make x.0, x.1)) may may p (λ x. value may (make x)) (λ x. nothing_more may (make x)) (λ x. inl (λ rest h. h))

pub begun_then : {A B : Type 0} (read : List Token → Read A) (f : A × List Token → Read B) (first second begin : List Token → Bool) → Begun read first begin
    → ((x : A) → Begun (λ ts. f (x, ts)) second first) → Begun (λ ts. read ts >>= f) second begin
begun_then read f first second begin b anew =
    let n = anew b.value in
    record {
      more = b.more ++ n.more;
      value = n.value;
      is = λ rest h. let p : read (b.more ++ (n.more ++ rest)) ≡ Ok (b.value, n.more ++ rest) = b.is (n.more ++ rest) (n.start rest h) in rw (append_assoc b.more n.more rest, p) (n.is rest h);
      start = λ rest h. ap begin (append_assoc b.more n.more rest) ∙ b.start (n.more ++ rest) (n.start rest h);
    }

pub begun_made : {A B : Type 0} (read : List Token → Read A) (may begin : List Token → Bool) (make : A → B) → Begun read may begin → Begun (λ ts. read ts >>= λ x. Ok (make x.0, x.1)) may begin
begun_made read may begin make b = begun_then read (λ x. Ok (make x.0, x.1)) may may begin b (λ x. nothing_more may (make x))

-- ---- readers that read nothing, since a key has no more levels

pub record Hopeless {A : Type 0} (read : List Token → Read A) : Type 0 where
  pub never : (ts : List Token) (x : A × List Token) → read ts ≡ Ok x → ⊥
  pub deep : (ts : List Token) (e : Fault) (t : Token) (left : List Token) → read ts ≡ Err e → e.left ≡ t ∷ left → e.fault ≡ fault.TooDeep

pub hopeless_then : {A B : Type 0} (read : List Token → Read A) (f : A × List Token → Read B) → Hopeless read → Hopeless (λ ts. read ts >>= f)
hopeless_then {A} {B} read f p = record { never = λ ts y m. never ts y (read ts) refl m; deep = λ ts e t left m l. deep ts e t left (read ts) refl m l } where
  never : (ts : List Token) (y : B × List Token) (r : Read A) → read ts ≡ r → (r >>= f) ≡ Ok y → ⊥
  never ts y (Ok x) m n = p.never ts x m
  never ts y (Err d) m n = absurd cc

  deep : (ts : List Token) (e : Fault) (t : Token) (left : List Token) (r : Read A) → read ts ≡ r → (r >>= f) ≡ Err e → e.left ≡ t ∷ left → e.fault ≡ fault.TooDeep
  deep ts e t left (Ok x) m n l = absurd (p.never ts x m)
  deep ts e t left (Err d) m n l = let same : d ≡ e = cc in p.deep ts e t left (rw (← same) m) l

-- ---- by the first token

pub data Does {A : Type 0} (read : List Token → Read A) (may : List Token → Bool) (t : Token) : Type 0 where
  Goes : (next : List Token → Read A) → Mends next may → Begun next may any → ((rest : List Token) → read (t ∷ rest) ≡ next rest) → Does read may t
  Sinks : (next : List Token → Read A) → Hopeless next → ((rest : List Token) → read (t ∷ rest) ≡ next rest) → Does read may t
  Fails : (d : CommandFault) → ((rest : List Token) → read (t ∷ rest) ≡ fault_here (t ∷ rest) d) → Does read may t
  Quits : (x : A) → ((rest : List Token) → read (t ∷ rest) ≡ Ok (x, t ∷ rest)) → ((rest : List Token) → may rest ≡ true → read rest ≡ Ok (x, rest)) → Does read may t

pub data AtEnd {A : Type 0} (read : List Token → Read A) (may : List Token → Bool) : Type 0 where
  Misses : (d : CommandFault) → read [] ≡ fault_here [] d → AtEnd read may
  Yields : (x : A) → read [] ≡ Ok (x, []) → ((rest : List Token) → may rest ≡ true → read rest ≡ Ok (x, rest)) → AtEnd read may

going : {A : Type 0} (read next : List Token → Read A) (may : List Token → Bool) (u : Token) (ts : List Token) (t : Token) (left : List Token)
    → Begun next may any → ((rest : List Token) → read (u ∷ rest) ≡ next rest) → Broken next may ts t left → Broken read may (u ∷ ts) t left
going {A} read next may u ts t left anew is b = by_front b.front b.whole b.onward where
  by_front : (front : List Token) → ts ≡ front ++ t ∷ left → (front ≡ []) ⊎ Completes next may front → Broken read may (u ∷ ts) t left
  by_front front w (inr c) = record {
    front = u ∷ front;
    whole = ap (λ (l : List Token). u ∷ l) w;
    onward = inr (record { more = c.more; value = c.value; is = λ rest h. is (front ++ (c.more ++ rest)) ∙ c.is rest h });
  }
  by_front [] w (inl n) = record {
    front = u ∷ [];
    whole = ap (λ (l : List Token). u ∷ l) w;
    onward = inr (record { more = anew.more; value = anew.value; is = λ rest h. is (anew.more ++ rest) ∙ anew.is rest h });
  }
  by_front (v ∷ front) w (inl n) = absurd cc

token_mend : {A : Type 0} (read : List Token → Read A) (may : List Token → Bool) → AtEnd read may → ((t : Token) → Does read may t)
    → (tokens : List Token) (e : Fault) (t : Token) (left : List Token) → read tokens ≡ Err e → e.left ≡ t ∷ left → (e.fault ≡ fault.TooDeep → ⊥) → Broken read may tokens t left
token_mend {A} read may end does [] e t left m l deep = elim end [
  | Misses d is ↦ let same : ◌≡◌ {A = Read A} (fault_here [] d) (Err e) = sym is ∙ m in let all : record { fault = d; left = [] } ≡ e = cc in let none : [] ≡ t ∷ left = ap (λ (x : Fault). x.left) all ∙ l in absurd cc
  | Yields x is more ↦ let same : ◌≡◌ {A = Read A} (Ok (x, [])) (Err e) = sym is ∙ m in absurd cc
]
token_mend {A} read may end does (u ∷ ts) e t left m l deep = elim (does u) [
  | Goes next p anew is ↦ going read next may u ts t left anew is (p.mend ts e t left (sym (is ts) ∙ m) l deep)
  | Sinks next p is ↦ absurd (deep (p.deep ts e t left (sym (is ts) ∙ m) l))
  | Fails d is ↦
      let same : ◌≡◌ {A = Read A} (fault_here (u ∷ ts) d) (Err e) = sym (is ts) ∙ m in
      let all : record { fault = d; left = u ∷ ts } ≡ e = cc in
      record { front = []; whole = ap (λ (x : Fault). x.left) all ∙ l; onward = inl refl }
  | Quits x is more ↦ let same : ◌≡◌ {A = Read A} (Ok (x, u ∷ ts)) (Err e) = sym (is ts) ∙ m in absurd cc
]

quit : {A : Type 0} (read : List Token → Read A) (may : List Token → Bool) (x y : A) (tokens left : List Token) → ◌≡◌ {A = Read A} (Ok (x, tokens)) (Ok (y, left))
    → ((rest : List Token) → may rest ≡ true → read rest ≡ Ok (x, rest)) → ((t : Token) (a b : List Token) → tokens ≡ t ∷ a → read (t ∷ b) ≡ Ok (x, t ∷ b)) → Stayed read may tokens y left
quit {A} read may x y tokens left e more same =
    let pair : ◌≡◌ {A = A × List Token} (x, tokens) (y, left) = cc in
    let is : x ≡ y = ap (λ (z : A × List Token). z.0) pair in
    let whole : tokens ≡ left = ap (λ (z : A × List Token). z.1) pair in
    record { front = []; whole = whole; is = λ rest h. more rest h ∙ ap (λ (z : A). Ok (z, rest)) is; same = λ t a b l. same t a b (whole ∙ l) ∙ ap (λ (z : A). Ok (z, t ∷ b)) is }

token_stay : {A : Type 0} (read : List Token → Read A) (may : List Token → Bool) → AtEnd read may → ((t : Token) → Does read may t)
    → (tokens : List Token) (y : A) (left : List Token) → read tokens ≡ Ok (y, left) → Stayed read may tokens y left
token_stay {A} read may end does [] y left m = elim end [
  | Misses d is ↦ let same : ◌≡◌ {A = Read A} (fault_here [] d) (Ok (y, left)) = sym is ∙ m in absurd cc
  | Yields x is more ↦ quit read may x y [] left (sym is ∙ m) more (λ t a b l. absurd cc)
]
token_stay {A} read may end does (u ∷ ts) y left m = elim (does u) [
  | Goes next p anew is ↦
      let s = p.stay ts y left (sym (is ts) ∙ m) in
      record { front = u ∷ s.front; whole = ap (λ (l : List Token). u ∷ l) s.whole; is = λ rest h. is (s.front ++ rest) ∙ s.is rest h; same = λ t a b l. is (s.front ++ t ∷ b) ∙ s.same t a b l }
  | Sinks next p is ↦ absurd (p.never ts (y, left) (sym (is ts) ∙ m))
  | Fails d is ↦ let same : ◌≡◌ {A = Read A} (fault_here (u ∷ ts) d) (Ok (y, left)) = sym (is ts) ∙ m in absurd cc
  | Quits x is more ↦ quit read may x y (u ∷ ts) left (sym (is ts) ∙ m) more (λ t a b l. let first : u ≡ t = cc in subst (λ (v : Token). read (v ∷ b) ≡ Ok (x, v ∷ b)) first (is b))
]

pub by_token : {A : Type 0} (read : List Token → Read A) (may : List Token → Bool) → AtEnd read may → ((t : Token) → Does read may t) → Mends read may
by_token read may end does = record { mend = λ tokens e t left m l deep. token_mend read may end does tokens e t left m l deep; stay = λ tokens y left m. token_stay read may end does tokens y left m }

-- a reader that reads the same as another
pub same_as : {A : Type 0} (read other : List Token → Read A) (may : List Token → Bool) → ((ts : List Token) → read ts ≡ other ts) → Mends other may → Mends read may
same_as {A} read other may is p = record {
  mend = λ tokens e t left m l deep.
      let b = p.mend tokens e t left (sym (is tokens) ∙ m) l deep in
      record { front = b.front; whole = b.whole; onward = elim b.onward [ inl n ↦ inl n | inr c ↦ inr (record { more = c.more; value = c.value; is = λ rest h. is _ ∙ c.is rest h }) ] };
  stay = λ tokens y left m.
      let s = p.stay tokens y left (sym (is tokens) ∙ m) in
      record { front = s.front; whole = s.whole; is = λ rest h. is _ ∙ s.is rest h; same = λ t a b l. is _ ∙ s.same t a b l };
}

-- ---- two readers, of which the first takes a token

no_front : (a b left : List Token) → left ≡ a ++ (b ++ left) → a ≡ []
no_front [] b left e = refl
no_front (u ∷ a) b left e = absurd (omega (arith, ap (λ (l : List Token). length l) e, length-append a (b ++ left), length-append b left))

pub eats_fit : {A B : Type 0} (read : List Token → Read A) (f : A × List Token → Read B) (first second : List Token → Bool) (P : A → Type 0) → Eats read → Mends read first
    → ((tokens : List Token) (x : A) (left : List Token) → read tokens ≡ Ok (x, left) → P x) → ((x : A) → P x → Mends (λ ts. f (x, ts)) second) → Eats (λ ts. read ts >>= f)
eats_fit {A} {B} read f first second P eats p so q ts y m = by_first (read ts) refl m where
  by_first : (r : Read A) → read ts ≡ r → (r >>= f) ≡ Ok (y, ts) → ⊥
  by_first (Err d) e n = absurd cc
  by_first (Ok x) e n =
      let s = p.stay ts x.0 x.1 e in
      let r = (q x.0 (so ts x.0 x.1 e)).stay x.1 y ts n in
      let none : s.front ≡ [] = no_front s.front r.front ts (s.whole ∙ ap (λ (l : List Token). s.front ++ l) r.whole) in
      let still : ts ≡ x.1 = s.whole ∙ ap (λ (l : List Token). l ++ x.1) none in
      eats ts x.0 (e ∙ ap (λ (l : List Token). Ok (x.0, l)) (sym still))

pub eats_then : {A B : Type 0} (read : List Token → Read A) (f : A × List Token → Read B) (first second : List Token → Bool) → Eats read → Mends read first → ((x : A) → Mends (λ ts. f (x, ts)) second)
    → Eats (λ ts. read ts >>= f)
eats_then read f first second eats p q = eats_fit read f first second Whatever eats p (λ tokens x left m. tt) (λ x w. q x)

-- ---- unless a test of the first token stops it

pub unless : {A : Type 0} (over : List Token → Bool) (x : A) (read : List Token → Read A) → Glances over → Mends read over → Eats read → Mends (λ ts. if over ts then Ok (x, ts) else read ts) over
unless {A} over x read g p eats = record { mend = λ tokens e t left m l deep. mend tokens e t left (over tokens) refl m l deep; stay = λ tokens y left m. stay tokens y left (over tokens) refl m } where
  glance : (tokens : List Token) (v : Token) (front a b : List Token) → over tokens ≡ false → tokens ≡ v ∷ (front ++ a) → over (v ∷ (front ++ b)) ≡ false
  glance tokens v front a b c w = g.only v (front ++ b) (front ++ a) ∙ sym (ap over w) ∙ c

  mend : (tokens : List Token) (e : Fault) (t : Token) (left : List Token) (b : Bool) → over tokens ≡ b → (if b then Ok (x, tokens) else read tokens) ≡ Err e → e.left ≡ t ∷ left → (e.fault ≡ fault.TooDeep → ⊥)
      → Broken (λ ts. if over ts then Ok (x, ts) else read ts) over tokens t left
  mend tokens e t left true c m l deep = absurd cc
  mend tokens e t left false c m l deep = let b = p.mend tokens e t left m l deep in by_front b.front b.whole b.onward where
    by_front : (front : List Token) → tokens ≡ front ++ t ∷ left → (front ≡ []) ⊎ Completes read over front → Broken (λ ts. if over ts then Ok (x, ts) else read ts) over tokens t left
    by_front front w (inl n) = record { front = front; whole = w; onward = inl n }
    by_front [] w (inr k) = record { front = []; whole = w; onward = inl refl }
    by_front (v ∷ front) w (inr k) = record {
      front = v ∷ front;
      whole = w;
      onward = inr (record { more = k.more; value = k.value; is = λ rest h. let d : over (v ∷ (front ++ (k.more ++ rest))) ≡ false = glance tokens v front (t ∷ left) (k.more ++ rest) c w in rw d (k.is rest h) });
    }

  stay : (tokens : List Token) (y : A) (left : List Token) (b : Bool) → over tokens ≡ b → (if b then Ok (x, tokens) else read tokens) ≡ Ok (y, left) → Stayed (λ ts. if over ts then Ok (x, ts) else read ts) over tokens y left
  stay tokens y left true c m =
      quit (λ ts. if over ts then Ok (x, ts) else read ts) over x y tokens left m (λ rest h. rw h refl)
      (λ t a b l. let d : over (t ∷ b) ≡ true = g.only t b a ∙ sym (ap over l) ∙ c in rw d refl)
  stay tokens y left false c m = let s = p.stay tokens y left m in by_front s.front s.whole s.is s.same where
    by_front : (front : List Token) → tokens ≡ front ++ left → ((rest : List Token) → over rest ≡ true → read (front ++ rest) ≡ Ok (y, rest))
        → ((t : Token) (a b : List Token) → left ≡ t ∷ a → read (front ++ t ∷ b) ≡ Ok (y, t ∷ b)) → Stayed (λ ts. if over ts then Ok (x, ts) else read ts) over tokens y left
    by_front [] w is same = absurd (eats left y (subst (λ (l : List Token). read l ≡ Ok (y, left)) w m))
    by_front (v ∷ front) w is same = record {
      front = v ∷ front;
      whole = w;
      is = λ rest h. let d : over (v ∷ (front ++ rest)) ≡ false = glance tokens v front left rest c w in rw d (is rest h);
      same = λ t a b l. let d : over (v ∷ (front ++ t ∷ b)) ≡ false = glance tokens v front left (t ∷ b) c w in rw d (same t a b l);
    }

-- ---- items one after the other

pub over_there : {A : Type 0} (over fits : List Token → Bool) (item : A → List Token → Read A) (room : ℕ) (seen : A) (rest : List Token) → over rest ≡ true → several over fits item room seen rest ≡ Ok (seen, rest)
unfolding several
over_there over fits item zero seen rest h = rw h refl
over_there over fits item (suc room) seen rest h = rw h refl

stop : {A : Type 0} (over fits begin : List Token → Bool) (item : A → List Token → Read A) (room : ℕ) (seen : A) → ((rest : List Token) → over rest ≡ true → begin rest ≡ true) → Begun (several over fits item room seen) over begin
stop over fits begin item room seen next = record { more = []; value = seen; is = λ rest h. over_there over fits item room seen rest h; start = λ rest h. next rest h }

-- what is told of an item: it is so of what was seen while there is room, and mends
pub record Items {A : Type 0} (over may : List Token → Bool) (item : A → List Token → Read A) (Fit : ℕ → A → Type 0) : Type 0 where
  pub glance : Glances over
  pub next : (rest : List Token) → over rest ≡ true → may rest ≡ true
  pub some : (rest : List Token) × (may rest ≡ true)
  pub mends : (room : ℕ) (seen : A) → Fit (suc room) seen → Mends (item seen) may
  pub keeps : (room : ℕ) (seen : A) → Fit (suc room) seen → (tokens : List Token) (x : A) (left : List Token) → item seen tokens ≡ Ok (x, left) → Fit room x
  pub eats : (room : ℕ) (seen : A) → Fit (suc room) seen → Eats (item seen)

at_limit : {A : Type 0} (over fits : List Token → Bool) (seen : A) → Glances over → Mends (λ ts. if over ts then Ok (seen, ts) else fault_here ts (if fits ts then fault.TooMany else fault.Arguments)) over
at_limit {A} over fits seen g = unless over seen (λ ts. fault_here ts (if fits ts then fault.TooMany else fault.Arguments)) g refused (λ ts x m. absurd cc) where
  mend : (tokens : List Token) (e : Fault) (t : Token) (left : List Token) (d : CommandFault) → ◌≡◌ {A = Read A} (fault_here tokens d) (Err e) → e.left ≡ t ∷ left → Broken {A = A} (λ ts. fault_here ts (if fits ts then fault.TooMany else fault.Arguments)) over tokens t left
  mend tokens e t left d m l = let all : record { fault = d; left = tokens } ≡ e = cc in record { front = []; whole = ap (λ (x : Fault). x.left) all ∙ l; onward = inl refl }

  refused : Mends {A = A} (λ ts. fault_here ts (if fits ts then fault.TooMany else fault.Arguments)) over
  refused = record { mend = λ tokens e t left m l deep. mend tokens e t left (if fits tokens then fault.TooMany else fault.Arguments) m l; stay = λ tokens x left m. absurd cc }

pub items : {A : Type 0} (over fits may : List Token → Bool) (item : A → List Token → Read A) (Fit : ℕ → A → Type 0) → Items over may item Fit → (room : ℕ) (seen : A) → Fit room seen → Mends (several over fits item room seen) over
unfolding several
items over fits may item Fit i zero seen fit = at_limit over fits seen i.glance
items {A} over fits may item Fit i (suc room) seen fit =
    unless over seen (λ ts. item seen ts >>= λ x. several over fits item room x.0 x.1) i.glance
    (bind_so (Fit room) (item seen) (λ x. several over fits item room x.0 x.1) may over (i.mends room seen fit) (i.keeps room seen fit) i.some (λ x w. items over fits may item Fit i room x w)
    (λ x w. stop over fits may item room x i.next) (λ x w. inl i.next))
    (eats_fit (item seen) (λ x. several over fits item room x.0 x.1) may over (Fit room) (i.eats room seen fit) (i.mends room seen fit) (i.keeps room seen fit) (λ x w. items over fits may item Fit i room x w))

-- one item and further ones
pub some_items : {A : Type 0} (over fits may : List Token → Bool) (item : A → List Token → Read A) (Fit : ℕ → A → Type 0) → Items over may item Fit → (most : ℕ) (none : A) → Fit (suc (most - 1)) none
    → Mends (some_of over fits item most none) over
unfolding some_of
some_items over fits may item Fit i most none fit =
    bind_so (Fit (most - 1)) (item none) (λ x. several over fits item (most - 1) x.0 x.1) may over (i.mends (most - 1) none fit) (i.keeps (most - 1) none fit) i.some (λ x w. items over fits may item Fit i (most - 1) x w)
    (λ x w. stop over fits may item (most - 1) x i.next) (λ x w. inl i.next)

pub some_eat : {A : Type 0} (over fits may : List Token → Bool) (item : A → List Token → Read A) (Fit : ℕ → A → Type 0) → Items over may item Fit → (most : ℕ) (none : A) → Fit (suc (most - 1)) none
    → Eats (some_of over fits item most none)
unfolding some_of
some_eat over fits may item Fit i most none fit =
    eats_fit (item none) (λ x. several over fits item (most - 1) x.0 x.1) may over (Fit (most - 1)) (i.eats (most - 1) none fit) (i.mends (most - 1) none fit) (i.keeps (most - 1) none fit) (λ x w. items over fits may item Fit i (most - 1) x w)

pub some_begun : {A : Type 0} (over fits may begin : List Token → Bool) (item : A → List Token → Read A) (Fit : ℕ → A → Type 0) → Items over may item Fit → (most : ℕ) (none : A) → Begun (item none) may begin
    → Begun (some_of over fits item most none) over begin
unfolding some_of
some_begun over fits may begin item Fit i most none b = begun_then (item none) (λ x. several over fits item (most - 1) x.0 x.1) may over begin b (λ x. stop over fits may item (most - 1) x i.next)

pub none_begun : {A : Type 0} (over fits begin : List Token → Bool) (item : A → List Token → Read A) (room : ℕ) (seen : A) → ((rest : List Token) → over rest ≡ true → begin rest ≡ true) → Begun (several over fits item room seen) over begin
none_begun over fits begin item room seen next = stop over fits begin item room seen next

-- whatever was seen
abbrev pub Always : {A : Type 0} → ℕ → A → Type 0
Always room x = Unit {0}

pub plain_items : {A : Type 0} (over may : List Token → Bool) (item : A → List Token → Read A) → Glances over → ((rest : List Token) → over rest ≡ true → may rest ≡ true) → ((rest : List Token) × (may rest ≡ true))
    → ((seen : A) → Mends (item seen) may) → ((seen : A) → Eats (item seen)) → Items over may item Always
plain_items over may item g next some p eats = record { glance = g; next = next; some = some; mends = λ room seen fit. p seen; keeps = λ room seen fit tokens x left e. tt; eats = λ room seen fit. eats seen }

-- ---- readers that take a token or fail at it

pub data Takes {A : Type 0} (read : List Token → Read A) (may : List Token → Bool) (t : Token) : Type 0 where
  Goes : (next : List Token → Read A) → Mends next may → Begun next may any → ((rest : List Token) → read (t ∷ rest) ≡ next rest) → Takes read may t
  Sinks : (next : List Token → Read A) → Hopeless next → ((rest : List Token) → read (t ∷ rest) ≡ next rest) → Takes read may t
  Fails : (d : CommandFault) → ((rest : List Token) → read (t ∷ rest) ≡ fault_here (t ∷ rest) d) → Takes read may t

pub record Taking {A : Type 0} (read : List Token → Read A) (may : List Token → Bool) : Type 0 where
  pub none : read [] ≡ fault_here [] fault.Arguments
  pub at : (t : Token) → Takes read may t

does_of : {A : Type 0} (read : List Token → Read A) (may : List Token → Bool) (t : Token) → Takes read may t → Does read may t
does_of read may t (Goes next p b is) = Goes next p b is
does_of read may t (Sinks next p is) = Sinks next p is
does_of read may t (Fails d is) = Fails d is

pub mended : {A : Type 0} (read : List Token → Read A) (may : List Token → Bool) → Taking read may → Mends read may
mended read may p = by_token read may (Misses fault.Arguments p.none) (λ t. does_of read may t (p.at t))

no_back : {A : Type 0} (next : List Token → Read A) (may : List Token → Bool) → Mends next may → (t : Token) (rest : List Token) (x : A) → next rest ≡ Ok (x, t ∷ rest) → ⊥
no_back next may p t rest x m =
    let s = p.stay rest x (t ∷ rest) m in
    omega (arith, ap (λ (l : List Token). length l) s.whole, length-append s.front (t ∷ rest))

pub takes_one : {A : Type 0} (read : List Token → Read A) (may : List Token → Bool) → Taking read may → Eats read
takes_one {A} read may p [] x m = let same : ◌≡◌ {A = Read A} (fault_here [] fault.Arguments) (Ok (x, [])) = sym p.none ∙ m in absurd cc
takes_one {A} read may p (t ∷ rest) x m = elim (p.at t) [
  | Goes next q b is ↦ no_back next may q t rest x (sym (is rest) ∙ m)
  | Sinks next q is ↦ q.never rest (x, t ∷ rest) (sym (is rest) ∙ m)
  | Fails d is ↦ let same : ◌≡◌ {A = Read A} (fault_here (t ∷ rest) d) (Ok (x, t ∷ rest)) = sym (is rest) ∙ m in absurd cc
]

-- another reader after it
pub then_takes : {A B : Type 0} (read : List Token → Read A) (f : A × List Token → Read B) (may : List Token → Bool) (t : Token) → Takes read any t → ((x : A) → Mends (λ ts. f (x, ts)) may)
    → ((x : A) → Begun (λ ts. f (x, ts)) may any) → Takes (λ ts. read ts >>= f) may t
then_takes {A} {B} read f may t (Goes next p b is) q anew =
    Goes (λ ts. next ts >>= f) (after next f may p q anew) (begun_then next f any may any b anew) (λ rest. ap (λ (r : Read A). r >>= f) (is rest))
then_takes {A} {B} read f may t (Sinks next p is) q anew = Sinks (λ ts. next ts >>= f) (hopeless_then next f p) (λ rest. ap (λ (r : Read A). r >>= f) (is rest))
then_takes {A} {B} read f may t (Fails d is) q anew = Fails d (λ rest. ap (λ (r : Read A). r >>= f) (is rest))

pub then_taking : {A B : Type 0} (read : List Token → Read A) (f : A × List Token → Read B) (may : List Token → Bool) → Taking read any → ((x : A) → Mends (λ ts. f (x, ts)) may)
    → ((x : A) → Begun (λ ts. f (x, ts)) may any) → Taking (λ ts. read ts >>= f) may
then_taking {A} {B} read f may p q anew = record { none = ap (λ (r : Read A). r >>= f) p.none; at = λ t. then_takes read f may t (p.at t) q anew }

-- a value that is made of what it reads
pub make_taking : {A B : Type 0} (read : List Token → Read A) (make : A → B) (may : List Token → Bool) → Taking read any → Taking (λ ts. read ts >>= λ x. Ok (make x.0, x.1)) may
make_taking read make may p = then_taking read (λ x. Ok (make x.0, x.1)) may p (λ x. value may (make x)) (λ x. anything _ may may (nothing_more may (make x)))

-- where it reads as another does from that token on
pub same_takes : {A : Type 0} (read other : List Token → Read A) (may : List Token → Bool) (t : Token) → ((rest : List Token) → read (t ∷ rest) ≡ other (t ∷ rest)) → Takes other may t → Takes read may t
same_takes read other may t alike (Goes next p b is) = Goes next p b (λ rest. alike rest ∙ is rest)
same_takes read other may t alike (Sinks next p is) = Sinks next p (λ rest. alike rest ∙ is rest)
same_takes read other may t alike (Fails d is) = Fails d (λ rest. alike rest ∙ is rest)

-- what anything may follow may be followed by some
pub before_some : {A : Type 0} (read : List Token → Read A) (may : List Token → Bool) → Mends read any → Mends read may
before_some {A} read may p = record {
  mend = λ tokens e t left m l deep.
      let b = p.mend tokens e t left m l deep in
      record { front = b.front; whole = b.whole; onward = elim b.onward [ inl n ↦ inl n | inr c ↦ inr (record { more = c.more; value = c.value; is = λ rest h. c.is rest refl }) ] };
  stay = λ tokens x left m. let s = p.stay tokens x left m in record { front = s.front; whole = s.whole; is = λ rest h. s.is rest refl; same = λ t a b l. s.same t a b l };
}

pub begun_before : {A : Type 0} (read : List Token → Read A) (may begin : List Token → Bool) → Begun read any begin → Begun read may begin
begun_before read may begin b = record { more = b.more; value = b.value; is = λ rest h. b.is rest refl; start = λ rest h. b.start rest refl }
