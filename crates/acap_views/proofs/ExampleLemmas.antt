-- The examples, computed.
use Rattle.std.proofs.Common.{◌≡◌, ℕ, ℤ, not, ◌&&◌, ◌+◌, cond, nat_lt, nat_le, List, [], ◌∷◌, ◌++◌, length, Option, Some, None, refl, ap, ◌∙◌, codes}
use Rattle.std.specs.FinMap as table
use Rattle.std.specs.Cmp.Lexicographic.{nat_list_cmp_total}
use Rattle.std.specs.Option.{option_map_or, option_or}
use Rattle.std.specs.Ordering.{eq_by_cmp}
use Rattle.std.proofs.Math.Bool.{and-false}
use Rattle.acap_entries.specs.Orders.{octets_cmp}
use Rattle.acap_notices.specs.declared.told.Told.{Told}
use Rattle.acap_notices.specs.declared.told.Told.TheVariants as told
use Rattle.acap_search.specs.declared.query.SearchSpec.{SearchSpec}
use Rattle.acap_views.specs.Telling.{fault_in, notes_of, updated_to, after_update, told_in_turn}
use Rattle.acap_views.specs.declared.refusal.ViewRefusal.{ViewRefusal}
use Rattle.acap_views.specs.declared.refusal.ViewRefusal.TheVariants as refusal
use Rattle.acap_moves.specs.Hits.{is_among, put, put_some, fresh, found, spot}
use Rattle.acap_moves.specs.Notices.{notices_from}
use Rattle.acap_notices.specs.Waiting.{notices_pending}
use Rattle.acap_notices.specs.declared.notice.Notice.{Notice}
use Rattle.acap_search.specs.Matches.{Match}
use Rattle.acap_views.specs.Contexts.{Live, Freed, Context, Contexts}
use Rattle.acap_views.specs.Examples.{context, four, by_name, KeptExamples, NamedExamples, NoticeExamples}

-- by how many there are
by_number : (shown after : List Match) (pending notices : List Notice) (n : ℕ) → length pending ≡ n
    → cond (nat_lt notices_pending (length pending + length notices)) Freed (Live shown after (pending ++ notices)) ≡ cond (nat_lt notices_pending (n + length notices)) Freed (Live shown after (pending ++ notices))
by_number shown after pending notices n e = ap (λ k. cond (nat_lt notices_pending (k + length notices)) Freed (Live shown after (pending ++ notices))) e

pub kept_examples : KeptExamples
kept_examples = record {
  notify = λ found. refl;
  snapshot = λ found. refl;
  first = λ shown before after notice. refl;
  last = λ shown before after pending notice e. by_number shown after pending (notice ∷ []) 4_095 e;
  full = λ shown before after pending e. by_number shown after pending [] 4_096 e;
  one_more = λ shown before after pending notice e. by_number shown after pending (notice ∷ []) 4_096 e;
  two_more = λ shown before after pending one two e. by_number shown after pending (one ∷ two ∷ []) 4_095 e;
  still = λ shown after notices. refl;
  gone = λ after notices. refl;
  told = λ shown now pending. refl;
  told_snapshot = λ shown. refl;
  waiting = λ shown now notice pending. refl;
  moved_alone = λ shown now. refl;
  freed = refl;
  kept = λ shown. refl;
}

-- what stands at a name
at : (sought : SearchSpec) (list : List Match) (one two : Notice) (name : List ℕ) → table.get (by_name sought list one two) name ≡ table.find octets_cmp name (four sought list one two)
at sought list one two name = table.get-from_entries nat_list_cmp_total (four sought list one two) name

abbrev fault_by : Option Context → Option ViewRefusal
fault_by o = option_map_or (λ (c : Context). fault_in c.kept) o (Some refusal.NoContext)

abbrev told_by : List ℕ → ℤ → Option Context → List Told
told_by name last o = option_map_or (λ (c : Context). notes_of name c.kept) o [] ++ told.Upto name last ∷ []

-- and once a context has been told
at_after : (contexts : Contexts) (name q : List ℕ) (last : ℤ) (c : Context) → table.get contexts name ≡ Some c → table.get (after_update contexts name last) q ≡ cond (eq_by_cmp octets_cmp q name) (Some (updated_to last c)) (table.get contexts q)
at_after contexts name q last c e =
    ap (λ o. table.get (option_map_or (λ (c : Context). table.insert contexts name (updated_to last c)) o contexts) q) e
    ∙ table.get-insert nat_list_cmp_total contexts name (updated_to last c) q

told_thrice : (sought : SearchSpec) (list : List Match) (one two : Notice) (last : ℤ)
    → told_in_turn (by_name sought list one two) (codes "b" ∷ codes "a" ∷ codes "b" ∷ []) last
    ≡ told.Note (codes "b") two ∷ told.Upto (codes "b") last ∷ told.Note (codes "a") one ∷ told.Upto (codes "a") last ∷ told.Upto (codes "b") last ∷ []
told_thrice sought list one two last =
    let all : Contexts = by_name sought list one two in
    let b : Context = context sought (Live list list (two ∷ [])) in
    let a : Context = context sought (Live list list (one ∷ [])) in
    let first : table.get all (codes "b") ≡ Some b = at sought list one two (codes "b") in
    let second : table.get (after_update all (codes "b") last) (codes "a") ≡ Some a = at_after all (codes "b") (codes "a") last b first ∙ at sought list one two (codes "a") in
    let third : table.get (after_update (after_update all (codes "b") last) (codes "a") last) (codes "b") ≡ Some (updated_to last b) =
    at_after (after_update all (codes "b") last) (codes "a") (codes "b") last a second ∙ at_after all (codes "b") (codes "b") last b first in
    λ i. told_by (codes "b") last (first i) ++ (told_by (codes "a") last (second i) ++ (told_by (codes "b") last (third i) ++ []))

pub named_examples : NamedExamples
named_examples = record {
  updates = told_thrice;
  unknown = λ sought list one two i.
      option_or (fault_by (at sought list one two (codes "a") i)) (option_or (fault_by (at sought list one two (codes "x") i)) (option_or (fault_by (at sought list one two (codes "f") i)) None));
  freed = λ sought list one two i.
      option_or (fault_by (at sought list one two (codes "a") i)) (option_or (fault_by (at sought list one two (codes "f") i)) (option_or (fault_by (at sought list one two (codes "s") i)) None));
  snapshot = λ sought list one two i. option_or (fault_by (at sought list one two (codes "s") i)) (option_or (fault_by (at sought list one two (codes "f") i)) None);
  right = λ sought list one two i.
      option_or (fault_by (at sought list one two (codes "b") i)) (option_or (fault_by (at sought list one two (codes "a") i)) (option_or (fault_by (at sought list one two (codes "b") i)) None));
  drained = λ sought list one two. refl;
  full = λ contexts name e f. (λ i. not (f i) && nat_le 200 (e i));
  replaced = λ contexts name e. (λ i. not (e i) && nat_le 200 (table.len contexts));
  place = λ contexts name e. ap (λ n. not (table.contains_key contexts name) && nat_le 200 n) e ∙ and-false (not (table.contains_key contexts name));
}

pub notice_examples : NoticeExamples
unfolding is_among put put_some fresh found spot notices_from
notice_examples = record {
  to_the_end = refl;
  unplaced = refl;
  mixed = refl;
  rank_alone = refl;
  position = refl;
  position_alone = refl;
  comes = refl;
  goes = refl;
  row = refl;
  place = refl;
  same = refl;
  neither = refl;
}
