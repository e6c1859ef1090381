-- Tokens that are added to a draft.
use Rattle.std.proofs.Common.{◌≡◌, ℕ, suc, ◌+◌, ◌-◌, ◌<◌, ◌≤◌, List, [], ◌∷◌, ◌++◌, length, refl, sym, ap, ◌∙◌, append_assoc, append-nil, length-append, arith}
use Rattle.acap_grammar.specs.Lines.{Datum, Word, Text, group}
use Rattle.acap_grammar.specs.Listening.{Client, added, opened, closed, closed_in, turned}
use Rattle.acap_grammar.specs.Listening as client
use Rattle.acap_client.specs.Data.{Rest, before, before_all, grouped}
use Rattle.acap_client.specs.Drafting.{Nest, empty, shut, grown, nest_from, nest_of, place_of, client_by, client_of, joined, Stands, IsDraft}
use Rattle.acap_client.specs.Hearing.{GoesOn, IsLost}
use Rattle.acap_client.specs.declared.draft.Draft.{Draft}
use Rattle.acap_client.specs.declared.place.Place.TheVariants as place
use Rattle.acap_client.specs.declared.draft.Token.{Token}
use Rattle.acap_client.specs.declared.draft.Token.TheVariants as token

nest-push : (nest : Nest) (ts : List Token) (t : Token) → nest_from nest (ts ++ t ∷ []) ≡ grown (nest_from nest ts) t
nest-push nest [] t = refl
nest-push nest (first ∷ ts) t = nest-push (grown nest first) ts t

before-push : (ts : List Token) (t : Token) (rest : Rest) → before_all (ts ++ t ∷ []) rest ≡ before_all ts (before t rest)
before-push [] t rest = refl
before-push (first ∷ ts) t rest = ap (before first) (before-push ts t rest)

pub nest_grown : (old new : List Token) (t : Token) → new ≡ old ++ t ∷ [] → nest_of new ≡ grown (nest_of old) t
nest_grown old new t e = ap nest_of e ∙ nest-push empty old t

-- ---- what stands

joined_alike : (outer : List (List Datum)) (inner other more others : List Datum) (next : List (List Datum)) → inner ++ more ≡ other ++ others → joined outer inner more next ≡ joined outer other others next
joined_alike [] inner other more others next e = e
joined_alike (first ∷ outer) inner other more others [] e = refl
joined_alike (first ∷ outer) inner other more others (after ∷ next) e = ap (λ ds. joined outer (first ++ group ds ∷ []) after next) e

-- with a datum more
datum_stands : (ts : List Token) (nest : Nest) (t : Token) (d : Datum)
    → ((rest : Rest) → before t rest ≡ record { inner = d ∷ rest.inner; outer = rest.outer })
    → Stands ts nest → Stands (ts ++ t ∷ []) (record { outer = nest.outer; inner = nest.inner ++ d ∷ [] })
datum_stands ts nest t d form stands rest same =
    ap (λ (r : Rest). r.inner) (before-push ts t rest ∙ ap (before_all ts) (form rest))
    ∙ stands (record { inner = d ∷ rest.inner; outer = rest.outer }) same
    ∙ joined_alike nest.outer nest.inner (nest.inner ++ d ∷ []) (d ∷ rest.inner) rest.inner rest.outer (sym (append_assoc nest.inner (d ∷ []) rest.inner))

pub word_stands : (ts : List Token) (nest : Nest) (octets : List ℕ) → Stands ts nest → Stands (ts ++ token.Word octets ∷ []) (grown nest (token.Word octets))
word_stands ts nest octets stands = datum_stands ts nest (token.Word octets) (Word octets) (λ rest. refl) stands

pub text_stands : (ts : List Token) (nest : Nest) (octets : List ℕ) → Stands ts nest → Stands (ts ++ token.Text octets ∷ []) (grown nest (token.Text octets))
text_stands ts nest octets stands = datum_stands ts nest (token.Text octets) (Text octets) (λ rest. refl) stands

opened_joins : (outer : List (List Datum)) (inner more : List Datum) (others : List (List Datum)) → length others ≡ suc (length outer)
    → joined outer inner (grouped more others).inner (grouped more others).outer ≡ joined (inner ∷ outer) [] more others
opened_joins outer inner more [] same = absurd (omega arith)
opened_joins outer inner more (next ∷ others) same = joined_alike outer inner (inner ++ group more ∷ []) (group more ∷ next) next others (sym (append_assoc inner (group more ∷ []) next))

opened_length : (more : List Datum) (others : List (List Datum)) (n : ℕ) → length others ≡ suc n → length (grouped more others).outer ≡ n
opened_length more [] n same = absurd (omega arith)
opened_length more (next ∷ others) n same = omega arith

pub open_stands : (ts : List Token) (nest : Nest) → Stands ts nest → Stands (ts ++ token.Open ∷ []) (grown nest token.Open)
open_stands ts nest stands rest same =
    ap (λ (r : Rest). r.inner) (before-push ts token.Open rest)
    ∙ stands (grouped rest.inner rest.outer) (opened_length rest.inner rest.outer (length nest.outer) same)
    ∙ opened_joins nest.outer nest.inner rest.inner rest.outer same

closed_joins : (first : List Datum) (outer : List (List Datum)) (inner more : List Datum) (others : List (List Datum))
    → joined (first ∷ outer) inner [] (more ∷ others) ≡ joined outer (first ++ group inner ∷ []) more others
closed_joins first outer inner more others = ap (λ ds. joined outer (first ++ group ds ∷ []) more others) (append-nil inner)

close_stands_by : (ts : List Token) (outer : List (List Datum)) (inner : List Datum) → 0 < length outer → Stands ts (record { outer = outer; inner = inner }) → Stands (ts ++ token.Close ∷ []) (shut outer inner)
close_stands_by ts [] inner some stands rest same = absurd (omega arith)
close_stands_by ts (first ∷ outer) inner some stands rest same =
    ap (λ (r : Rest). r.inner) (before-push ts token.Close rest)
    ∙ stands (record { inner = []; outer = rest.inner ∷ rest.outer }) (omega arith)
    ∙ closed_joins first outer inner rest.inner rest.outer

pub close_stands : (ts : List Token) (nest : Nest) → 0 < length nest.outer → Stands ts nest → Stands (ts ++ token.Close ∷ []) (grown nest token.Close)
close_stands ts nest some stands = close_stands_by ts nest.outer nest.inner some stands

-- ---- drafts

-- how long the lists are
joined_some : (ds : List Datum) (d : Datum) → 0 < length (ds ++ d ∷ [])
joined_some ds d = omega (arith, length-append ds (d ∷ []))

abbrev Pushes : Draft → Draft → Token → Type 0
Pushes old new t = new.tokens.items ≡ old.tokens.items ++ t ∷ []

nest_pushed : (old new : Draft) (t : Token) → Pushes old new t → nest_of new.tokens.items ≡ grown (nest_of old.tokens.items) t
nest_pushed old new t e = nest_grown old.tokens.items new.tokens.items t e

stands_by : (old new : Draft) (t : Token) → Pushes old new t → Stands (old.tokens.items ++ t ∷ []) (grown (nest_of old.tokens.items) t) → Stands new.tokens.items (nest_of new.tokens.items)
stands_by old new t e s = rw (nest_pushed old new t e) (rw e s)

few_by : (old new : Draft) (t : Token) → Pushes old new t → old.depth ≤ length old.tokens.items → old.depth + 1 ≤ length new.tokens.items
few_by old new t e few = omega (arith, ap length e, length-append old.tokens.items (t ∷ []))

pub word_client : (old new : Draft) (w octets : List ℕ) → Pushes old new (token.Word w) → w ≡ octets → new.place ≡ place.Ended
    → client_of new ≡ added (client_of old) (Word octets)
word_client old new w octets e same at = rw (nest_pushed old new (token.Word w) e, at, same) refl

pub text_client : (old new : Draft) (w octets : List ℕ) → Pushes old new (token.Text w) → w ≡ octets → new.place ≡ place.Ended
    → client_of new ≡ added (client_of old) (Text octets)
text_client old new w octets e same at = rw (nest_pushed old new (token.Text w) e, at, same) refl

pub word_draft : (old new : Draft) (w : List ℕ) → Pushes old new (token.Word w) → new.depth ≡ old.depth → new.place ≡ place.Ended → IsDraft old → IsDraft new
word_draft old new w e d at is =
    let nest = nest_pushed old new (token.Word w) e in
    record {
      depth = rw (d, nest) is.depth;
      few = omega (arith, few_by old new (token.Word w) e is.few, d);
      inner = rw (at, nest) (joined_some (nest_of old.tokens.items).inner (Word w));
      stands = stands_by old new (token.Word w) e (word_stands old.tokens.items (nest_of old.tokens.items) w is.stands);
    }

pub text_draft : (old new : Draft) (w : List ℕ) → Pushes old new (token.Text w) → new.depth ≡ old.depth → new.place ≡ place.Ended → IsDraft old → IsDraft new
text_draft old new w e d at is =
    let nest = nest_pushed old new (token.Text w) e in
    record {
      depth = rw (d, nest) is.depth;
      few = omega (arith, few_by old new (token.Text w) e is.few, d);
      inner = rw (at, nest) (joined_some (nest_of old.tokens.items).inner (Text w));
      stands = stands_by old new (token.Text w) e (text_stands old.tokens.items (nest_of old.tokens.items) w is.stands);
    }

pub open_client : (old new : Draft) → Pushes old new token.Open → new.place ≡ place.Opened → client_of new ≡ opened (client_of old)
open_client old new e at = rw (nest_pushed old new token.Open e, at) refl

pub open_draft : (old new : Draft) → Pushes old new token.Open → new.depth ≡ old.depth + 1 → new.place ≡ place.Opened → IsDraft old → IsDraft new
open_draft old new e d at is =
    let nest = nest_pushed old new token.Open e in
    record {
      depth = rw (d, nest) (omega (arith, is.depth));
      few = omega (arith, few_by old new token.Open e is.few, d);
      inner = rw (at, nest) refl;
      stands = stands_by old new token.Open e (open_stands old.tokens.items (nest_of old.tokens.items) is.stands);
    }

-- a parenthesis closes, or none is open
shut_client : (nest : Nest) (at : client.Place) → 0 < length nest.outer → closed (client_by nest at) ≡ client_by (shut nest.outer nest.inner) client.Ended
shut_client nest at some = shut_by nest.outer nest.inner some
  where
    shut_by : (outer : List (List Datum)) (inner : List Datum) → 0 < length outer
        → closed_in outer (client_by (record { outer = outer; inner = inner }) at) ≡ client_by (shut outer inner) client.Ended
    shut_by [] inner some = absurd (omega arith)
    shut_by (first ∷ outer) inner some = refl

shut_length : (outer : List (List Datum)) (inner : List Datum) → 0 < length outer → length outer - 1 ≡ length (shut outer inner).outer
shut_length [] inner some = absurd (omega arith)
shut_length (first ∷ outer) inner some = omega arith

shut_inner : (outer : List (List Datum)) (inner : List Datum) → 0 < length outer → 0 < length (shut outer inner).inner
shut_inner [] inner some = absurd (omega arith)
shut_inner (first ∷ outer) inner some = joined_some first (group inner)

pub close_client : (old new : Draft) → Pushes old new token.Close → new.place ≡ place.Ended → IsDraft old → 0 < old.depth → closed (client_of old) ≡ client_of new
close_client old new e at is some =
    let nest = nest_of old.tokens.items in
    rw (nest_pushed old new token.Close e, at) (shut_client nest (place_of old.place old.word.items) (omega (arith, is.depth)))

pub close_draft : (old new : Draft) → Pushes old new token.Close → new.depth ≡ old.depth - 1 → new.place ≡ place.Ended → IsDraft old → 0 < old.depth → IsDraft new
close_draft old new e d at is some =
    let nest = nest_of old.tokens.items in
    let same = nest_pushed old new token.Close e in
    let open_now : 0 < length nest.outer = omega (arith, is.depth) in
    record {
      depth = rw (d, same, is.depth) (shut_length nest.outer nest.inner open_now);
      few = omega (arith, few_by old new token.Close e is.few, d);
      inner = rw (at, same) (shut_inner nest.outer nest.inner open_now);
      stands = stands_by old new token.Close e (close_stands old.tokens.items nest open_now is.stands);
    }

pub closes : (old new : Draft) → Pushes old new token.Close → new.depth ≡ old.depth - 1 → new.place ≡ place.Ended → IsDraft old → 0 < old.depth
    → (room : ℕ) → GoesOn room (closed (client_of old)) new
closes old new e d at is some room =
    let same = close_client old new e at is some in
    record { same = same; fits = rw (same, at) tt; draft = close_draft old new e d at is some }

-- no parenthesis is open
lost_by : (outer : List (List Datum)) (inner : List Datum) (at : client.Place) → length outer ≡ 0 → IsLost (closed (client_by (record { outer = outer; inner = inner }) at))
lost_by [] inner at none = record { none = refl; place = refl }
lost_by (first ∷ outer) inner at none = absurd (omega arith)

pub lost_here : (old : Draft) → IsDraft old → old.depth ≡ 0 → (room : ℕ) → IsLost (closed (client_of old))
lost_here old is none room = lost_by (nest_of old.tokens.items).outer (nest_of old.tokens.items).inner _ (omega (arith, is.depth))
