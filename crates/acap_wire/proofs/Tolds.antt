-- What a follower makes of the lines that tell of contexts.
use Rattle.std.proofs.Common.{◌≡◌, ℕ, Bool, true, false, cond, ◌||◌, List, [], ◌∷◌, ◌++◌, map, Option, Some, None, refl, sym, ap, subst, ◌∙◌}
use Rattle.std.specs.List.{list_any}
use Rattle.std.specs.Option.{option_and_then}
use Rattle.std.specs.Cmp.Lexicographic.{bytes_decides}
use Rattle.std.proofs.lemmas.Bool.{or_parts}
use Rattle.acap_client.specs.Following.{Held, Kept, Follower, Followed, Goes, Misfit, look_up, put, noticed, noticed_of, changed, completed, completed_of, free, freed_by, held_after, follow, follow_all, followed_with}
use Rattle.acap_entries.specs.Orders.{octets_eq}
use Rattle.acap_grammar.specs.Lines.{Line}
use Rattle.acap_grammar.specs.Printed.{PrintedNotice, PrintedLaw, printed_notice}
use Rattle.acap_grammar.specs.SaidLines.{notice_line, told_line}
use Rattle.acap_moves.specs.Hits.{is_among}
use Rattle.acap_notices.specs.Client.{in_turn}
use Rattle.acap_notices.specs.Holding.{Holding, holding_after, holding_after_all}
use Rattle.acap_notices.specs.declared.notice.Notice.{Notice}
use Rattle.acap_notices.specs.declared.notice.Notice.TheVariants as notice
use Rattle.acap_notices.specs.declared.told.Told.{Told}
use Rattle.acap_notices.specs.declared.told.Told.TheVariants as told
use Rattle.acap_views.specs.Clients.{notice_for, notices_for}
use Rattle.acap_wire.proofs.Kept.{IsKeptAs, IsPrintedAs, Leads, leads}
use Rattle.acap_wire.proofs.Named.{look_own, look_other}

-- ---- lines one after the other

pub append_follow : (xs ys : List Line) (f : Follower)
    → follow_all (xs ++ ys) f ≡ ((follow_all ys (follow_all xs f).0).0, (follow_all xs f).1 ++ (follow_all ys (follow_all xs f).0).1)
append_follow [] ys f = refl
append_follow (x ∷ xs) ys f = elim (follow f x) as (λ r. followed_with (follow_all (xs ++ ys)) f r
    ≡ ((follow_all ys (followed_with (follow_all xs) f r).0).0, (followed_with (follow_all xs) f r).1 ++ (follow_all ys (followed_with (follow_all xs) f r).0).1)) [
      | Goes g ↦ append_follow xs ys g
      | Misfit context ↦ ap (λ (p : Follower × List (List ℕ)). (p.0, context ∷ p.1)) (append_follow xs ys f)
    ]

pub among_append : (q : List ℕ) (xs ys : List (List ℕ)) → is_among q xs ≡ false → is_among q ys ≡ false → is_among q (xs ++ ys) ≡ false
unfolding is_among
among_append q [] ys a b = b
among_append q (x ∷ xs) ys a b =
    let parts = or_parts (octets_eq q x) (is_among q xs) a in
    ap (λ c. c || is_among q (xs ++ ys)) parts.0 ∙ among_append q xs ys parts.1 b

-- ---- what is said of one context

-- whether that context is said to be freed
abbrev pub frees_in : List ℕ → Told → Bool
frees_in q (told.Note context n) = false
frees_in q (told.Upto context moment) = false
frees_in q (told.Freed context) = octets_eq q context

abbrev pub frees_among : List ℕ → List Told → Bool
frees_among q tolds = list_any (frees_in q) tolds

-- the follower goes on with what is held so, or another context's line is a misfit
abbrev IsFollowed : List ℕ → Holding → Follower → Followed → Type 0
IsFollowed q h f (Goes g) = IsKeptAs h (look_up q g.contexts) × (g.asked ≡ f.asked)
IsFollowed q h f (Misfit context) = IsKeptAs h (look_up q f.contexts) × (octets_eq q context ≡ false)

kept_where : (h : Holding) (x y : Option Kept) → x ≡ y → IsKeptAs h x → IsKeptAs h y
kept_where h x y e k = subst (IsKeptAs h) e k

module _ (law : PrintedLaw) (q : List ℕ) where
  -- ---- a notice of the context

  own_changed : (h : Holding) (f : Follower) (held : Option Held) → Leads h held → IsFollowed q h f (changed q held f)
  own_changed h f None l = absurd (let e : None ≡ Some l.next = l.is in cc)
  own_changed h f (Some held) l =
      let same : held ≡ l.next = (let e : Some held ≡ Some l.next = l.is in cc) in (
        record {
          kept = record { held = held; complete = false; freed = false };
          there = look_own q _ f.contexts;
          printed = subst (IsPrintedAs h) (sym same) l.printed;
          goes_on = refl;
        },
        refl,
      )

  own_kept : (old new : Holding) (n : Notice) (f : Follower) (k : Kept) → k.freed ≡ false → IsPrintedAs old k.held → holding_after old n ≡ Some new
      → IsFollowed q new f (noticed_of q (printed_notice n) (Some k) f)
  own_kept old new n f k goes p e =
      subst (λ b. IsFollowed q new f (cond b (Misfit q) (changed q (held_after k.held (printed_notice n)) f))) (sym goes)
      (own_changed new f (held_after k.held (printed_notice n)) (leads law old new k.held n p e))

  own_notice : (old new : Holding) (n : Notice) (f : Follower) → IsKeptAs old (look_up q f.contexts) → holding_after old n ≡ Some new
      → IsFollowed q new f (noticed q (printed_notice n) f)
  own_notice old new n f k e =
      subst (λ o. IsFollowed q new f (noticed_of q (printed_notice n) o f)) (sym k.there) (own_kept old new n f k.kept k.goes_on k.printed e)

  -- ---- a line of another context

  module _ (h : Holding) (context : List ℕ) (other : octets_eq q context ≡ false) (f : Follower) (k : IsKeptAs h (look_up q f.contexts)) where
    put_other : (kept : Kept) → IsKeptAs h (look_up q (put context kept f.contexts))
    put_other kept = kept_where h (look_up q f.contexts) _ (sym (look_other q context kept f.contexts other)) k

    other_changed : (held : Option Held) → IsFollowed q h f (changed context held f)
    other_changed None = (k, other)
    other_changed (Some held) = (put_other _, refl)

    other_noticed : (n : PrintedNotice) (found : Option Kept) → IsFollowed q h f (noticed_of context n found f)
    other_noticed n None = (k, other)
    other_noticed n (Some kept) = elim kept.freed as (λ b. IsFollowed q h f (cond b (Misfit context) (changed context (held_after kept.held n) f))) [
      | true ↦ (k, other)
      | false ↦ other_changed (held_after kept.held n)
    ]

    other_completed : (found : Option Kept) → IsFollowed q h f (completed_of context found f)
    other_completed None = (k, other)
    other_completed (Some kept) = elim kept.freed as (λ b. IsFollowed q h f (cond b (Misfit context) (Goes (record f { contexts = put context (record kept { complete = true }) f.contexts })))) [
      | true ↦ (k, other)
      | false ↦ (put_other _, refl)
    ]

    pub other_freed : (found : Option Kept) → IsFollowed q h f (Goes (freed_by context found f))
    other_freed None = (k, refl)
    other_freed (Some kept) = (put_other _, refl)

  -- ---- a MODTIME of the context

  own_completed : (h : Holding) (f : Follower) → IsKeptAs h (look_up q f.contexts) → IsFollowed q h f (completed q f)
  own_completed h f k =
      subst (λ o. IsFollowed q h f (completed_of q o f)) (sym k.there)
      (subst (λ b. IsFollowed q h f (cond b (Misfit q) (Goes (record f { contexts = put q (record k.kept { complete = true }) f.contexts })))) (sym k.goes_on)
      (record { kept = record k.kept { complete = true }; there = look_own q _ f.contexts; printed = k.printed; goes_on = k.goes_on }, refl))

  -- ---- one line

  notice_is : (context : List ℕ) (n : Notice) (f : Follower) → follow f (notice_line context n) ≡ noticed context (printed_notice n) f
  notice_is context (notice.AddTo position row) f = refl
  notice_is context (notice.RemoveFrom entry position) f = refl
  notice_is context (notice.Change old new row) f = refl

  freed_is : (context : List ℕ) (f : Follower) → follow f (told_line (told.Freed context)) ≡ Goes (free context f)
  freed_is context f = refl

  same_holding : (old new : Holding) → Some old ≡ Some new → old ≡ new
  same_holding old new e = cc

  one_after : (x : Option Holding) (new : Holding) → option_and_then (λ next. Some next) x ≡ Some new → x ≡ Some new
  one_after None new e = cc
  one_after (Some h) new e = e

  noted : (context : List ℕ) (n : Notice) (f : Follower) (old new : Holding) (b : Bool) → octets_eq q context ≡ b → IsKeptAs old (look_up q f.contexts)
      → holding_after_all old (cond b (n ∷ []) []) ≡ Some new → IsFollowed q new f (follow f (notice_line context n))
  noted context n f old new true t k e =
      let here : q ≡ context = (bytes_decides q context).0 t in
      subst (IsFollowed q new f) (ap (λ c. noticed c (printed_notice n) f) here ∙ sym (notice_is context n f))
      (own_notice old new n f k (one_after (holding_after old n) new e))
  noted context n f old new false t k e =
      subst (IsFollowed q new f) (sym (notice_is context n f))
      (other_noticed new context t f (subst (λ h. IsKeptAs h (look_up q f.contexts)) (same_holding old new e) k) (printed_notice n) (look_up context f.contexts))

  upto : (context : List ℕ) (f : Follower) (h : Holding) (b : Bool) → octets_eq q context ≡ b → IsKeptAs h (look_up q f.contexts) → IsFollowed q h f (completed context f)
  upto context f h true t k = subst (λ c. IsFollowed q h f (completed c f)) ((bytes_decides q context).0 t) (own_completed h f k)
  upto context f h false t k = other_completed h context t f k (look_up context f.contexts)

  one_told : (one : Told) (f : Follower) (old new : Holding) → IsKeptAs old (look_up q f.contexts) → frees_in q one ≡ false
      → holding_after_all old (notice_for q one) ≡ Some new → IsFollowed q new f (follow f (told_line one))
  one_told (told.Note context n) f old new k stays e = noted context n f old new (octets_eq q context) refl k e
  one_told (told.Upto context moment) f old new k stays e =
      upto context f new (octets_eq q context) refl (subst (λ h. IsKeptAs h (look_up q f.contexts)) (same_holding old new e) k)
  one_told (told.Freed context) f old new k stays e =
      subst (IsFollowed q new f) (sym (freed_is context f))
      (other_freed new context stays f (subst (λ h. IsKeptAs h (look_up q f.contexts)) (same_holding old new e) k) (look_up context f.contexts))

  -- ---- all of them

  pub record AreFollowed (h : Holding) (f : Follower) (r : Follower × List (List ℕ)) : Type 0 where
    pub holds : IsKeptAs h (look_up q r.0.contexts)
    pub asked : r.0.asked ≡ f.asked
    pub fits : is_among q r.1 ≡ false

  after_append : (ns ms : List Notice) (h : Holding) → holding_after_all h (ns ++ ms) ≡ option_and_then (λ k. holding_after_all k ms) (holding_after_all h ns)
  after_append [] ms h = refl
  after_append (n ∷ ns) ms h = elim (holding_after h n) as (λ o. option_and_then (λ next. in_turn holding_after next (ns ++ ms)) o ≡ option_and_then (λ k. holding_after_all k ms) (option_and_then (λ next. in_turn holding_after next ns) o)) [
    | None ↦ refl
    | Some next ↦ after_append ns ms next
  ]

  then_followed : (h next : Holding) (f : Follower) (ts : List Told) (r : Followed) → IsFollowed q next f r
      → ((g : Follower) → IsKeptAs next (look_up q g.contexts) → AreFollowed h g (follow_all (map told_line ts) g))
      → AreFollowed h f (followed_with (follow_all (map told_line ts)) f r)
  unfolding is_among
  then_followed h next f ts (Goes g) one others =
      let rest = others g one.0 in
      record { holds = rest.holds; asked = rest.asked ∙ one.1; fits = rest.fits }
  then_followed h next f ts (Misfit context) one others =
      let rest = others f one.0 in
      record { holds = rest.holds; asked = rest.asked; fits = ap (λ b. b || is_among q (follow_all (map told_line ts) f).1) one.1 ∙ rest.fits }

  next_told : (t : Told) (ts : List Told) (f : Follower) (old new : Holding) → IsKeptAs old (look_up q f.contexts) → frees_in q t ≡ false
      → ((g : Follower) (next : Holding) → IsKeptAs next (look_up q g.contexts) → holding_after_all next (notices_for q ts) ≡ Some new → AreFollowed new g (follow_all (map told_line ts) g))
      → (x : Option Holding) → holding_after_all old (notice_for q t) ≡ x → option_and_then (λ h. holding_after_all h (notices_for q ts)) x ≡ Some new
      → AreFollowed new f (follow_all (map told_line (t ∷ ts)) f)
  next_told t ts f old new k a others None x e = absurd cc
  next_told t ts f old new k a others (Some next) x e =
      then_followed new next f ts (follow f (told_line t)) (one_told t f old next k a x) (λ g kept. others g next kept e)

  pub all_told : (ts : List Told) (f : Follower) (old new : Holding) → IsKeptAs old (look_up q f.contexts) → frees_among q ts ≡ false
      → holding_after_all old (notices_for q ts) ≡ Some new → AreFollowed new f (follow_all (map told_line ts) f)
  unfolding is_among
  all_told [] f old new k stays e = record { holds = subst (λ h. IsKeptAs h (look_up q f.contexts)) (same_holding old new e) k; asked = refl; fits = refl }
  all_told (t ∷ ts) f old new k stays e =
      let parts = or_parts (frees_in q t) (frees_among q ts) stays in
      next_told t ts f old new k parts.0 (λ g next kept more. all_told ts g next new kept parts.1 more) (holding_after_all old (notice_for q t)) refl
      (sym (after_append (notice_for q t) (notices_for q ts) old) ∙ e)

-- ---- what is told of other contexts

abbrev pub about : List ℕ → Told → Bool
about q (told.Note context n) = octets_eq q context
about q (told.Upto context moment) = octets_eq q context
about q (told.Freed context) = octets_eq q context

abbrev SameAt : List ℕ → Follower → Followed → Type 0
SameAt q f (Goes g) = look_up q g.contexts ≡ look_up q f.contexts
SameAt q f (Misfit context) = Unit {0}

module _ (q context : List ℕ) (other : octets_eq q context ≡ false) (f : Follower) where
  changed_at : (held : Option Held) → SameAt q f (changed context held f)
  changed_at None = tt
  changed_at (Some held) = look_other q context _ f.contexts other

  noticed_at : (n : PrintedNotice) (found : Option Kept) → SameAt q f (noticed_of context n found f)
  noticed_at n None = tt
  noticed_at n (Some kept) = elim kept.freed as (λ b. SameAt q f (cond b (Misfit context) (changed context (held_after kept.held n) f))) [
    | true ↦ tt
    | false ↦ changed_at (held_after kept.held n)
  ]

  completed_at : (found : Option Kept) → SameAt q f (completed_of context found f)
  completed_at None = tt
  completed_at (Some kept) = elim kept.freed as (λ b. SameAt q f (cond b (Misfit context) (Goes (record f { contexts = put context (record kept { complete = true }) f.contexts })))) [
    | true ↦ tt
    | false ↦ look_other q context (record kept { complete = true }) f.contexts other
  ]

  freed_at : (found : Option Kept) → look_up q (freed_by context found f).contexts ≡ look_up q f.contexts
  freed_at None = refl
  freed_at (Some kept) = look_other q context (record kept { freed = true }) f.contexts other

told_at : (q : List ℕ) (one : Told) (f : Follower) → about q one ≡ false → SameAt q f (follow f (told_line one))
told_at q (told.Note context (notice.AddTo position row)) f e = noticed_at q context e f _ (look_up context f.contexts)
told_at q (told.Note context (notice.RemoveFrom entry position)) f e = noticed_at q context e f _ (look_up context f.contexts)
told_at q (told.Note context (notice.Change old new row)) f e = noticed_at q context e f _ (look_up context f.contexts)
told_at q (told.Upto context moment) f e = completed_at q context e f (look_up context f.contexts)
told_at q (told.Freed context) f e = freed_at q context e f (look_up context f.contexts)

then_at : (q : List ℕ) (f : Follower) (r : Followed) (others : Follower → Follower × List (List ℕ)) → SameAt q f r → ((g : Follower) → look_up q (others g).0.contexts ≡ look_up q g.contexts)
    → look_up q (followed_with others f r).0.contexts ≡ look_up q f.contexts
then_at q f (Goes g) others same each = each g ∙ same
then_at q f (Misfit context) others same each = each f

pub tolds_at : (q : List ℕ) (tolds : List Told) (f : Follower) → list_any (about q) tolds ≡ false → look_up q (follow_all (map told_line tolds) f).0.contexts ≡ look_up q f.contexts
tolds_at q [] f e = refl
tolds_at q (one ∷ tolds) f e =
    let parts = or_parts (about q one) (list_any (about q) tolds) e in
    then_at q f (follow f (told_line one)) (follow_all (map told_line tolds)) (told_at q one f parts.0) (λ g. tolds_at q tolds g parts.1)
