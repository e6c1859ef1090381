-- What was written of octets.
use Rattle.std.proofs.Common.{◌≡◌, ℕ, List, [], ◌++◌, take, drop, Option, Some, None, OnErr, OnOk, Result, Ok, Err, sym, ap, ◌∙◌, append_assoc}
use Rattle.std.specs.Io.KnownBytes.{Appends, Keeps}
use Rattle.std.proofs.lemmas.List.{append-nil, take-append-drop}
use Rattle.acap_session.specs.Streams.{SendsFront}

-- ---- octets behind octets

pub appends_then : (a b c : Option (List ℕ)) (x y : List ℕ) → Appends a b x → Appends b c y → Appends a c (x ++ y)
appends_then None b c x y p q = tt
appends_then (Some u) None c x y p q = absurd p
appends_then (Some u) (Some v) None x y p q = absurd q
appends_then (Some u) (Some v) (Some w) x y p q = q ∙ ap (λ (t : List ℕ). t ++ y) p ∙ append_assoc u x y

pub appends_none : (w : Option (List ℕ)) → Appends w w []
appends_none None = tt
appends_none (Some u) = sym (append-nil u)

pub appends_keeps : (a b c : Option (List ℕ)) (xs : List ℕ) → Appends a b xs → Keeps b c → Appends a c xs
appends_keeps None b c xs p k = tt
appends_keeps (Some u) None c xs p k = absurd p
appends_keeps (Some u) (Some v) None xs p k = absurd k
appends_keeps (Some u) (Some v) (Some w) xs p k = k ∙ p

-- ---- octets were written but for a rest

pub record IsSent (old new : Option (List ℕ)) (octets rest : List ℕ) : Type 0 where
  pub front : List ℕ
  pub is : octets ≡ front ++ rest
  pub appends : Appends old new front

pub more_sent : (a b c : Option (List ℕ)) (octets rest back : List ℕ) (n : ℕ) → IsSent a b octets rest → Appends b c (take n rest) → back ≡ drop n rest → IsSent a c octets back
more_sent a b c octets rest back n s p e = record {
  front = s.front ++ take n rest;
  is = s.is ∙ ap (λ ys. s.front ++ ys) (sym (take-append-drop n rest) ∙ ap (λ ys. take n rest ++ ys) (sym e)) ∙ sym (append_assoc s.front (take n rest) back);
  appends = appends_then a b c s.front (take n rest) s.appends p;
}

-- ---- a front of octets was written

pub all_front : (a b : Option (List ℕ)) (octets : List ℕ) → Appends a b octets → SendsFront a b octets
all_front a b octets p = record { front = octets; rest = []; is = sym (append-nil octets); sent = p }

-- by whether the last write failed
pub sent_at_last : {T E : Type 0} (r : Result T E) (a b c : Option (List ℕ)) (octets : List ℕ) → Appends a b octets → Keeps b c → OnOk r (Appends a c octets)
sent_at_last (Ok x) a b c octets p k = appends_keeps a b c octets p k
sent_at_last (Err x) a b c octets p k = tt

pub front_at_last : {T E : Type 0} (r : Result T E) (a b c : Option (List ℕ)) (octets : List ℕ) → Appends a b octets → Keeps b c → OnErr r (SendsFront a c octets)
front_at_last (Ok x) a b c octets p k = tt
front_at_last (Err x) a b c octets p k = all_front a c octets (appends_keeps a b c octets p k)

-- behind others
pub front_then : (a b c : Option (List ℕ)) (xs ys : List ℕ) → Appends a b xs → SendsFront b c ys → SendsFront a c (xs ++ ys)
front_then a b c xs ys p s = record {
  front = xs ++ s.front;
  rest = s.rest;
  is = ap (λ zs. xs ++ zs) s.is ∙ sym (append_assoc xs s.front s.rest);
  sent = appends_then a b c xs s.front p s.sent;
}
