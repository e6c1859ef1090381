-- Which attributes a name with `*` lists.
use Rattle.std.proofs.Common.{◌≡◌, ℕ, zero, suc, ◌<◌, Bool, true, false, not, cond, ◌&&◌, ◌||◌, Option, Some, None, List, [], ◌∷◌, ◌++◌, length, refl, sym, ◌∙◌, ap, arith, nat_eq}
use Rattle.std.proofs.lemmas.Bool.{or_parts}
use Rattle.std.specs.List.{list_any, starts_with, Contains}
use Rattle.std.specs.Option.{is_some, option_and_then}
use Rattle.std.specs.FinMap as map
use Rattle.std.specs.FinMap.{get-insert, get-empty, same_map, contains_key-keys}
use Rattle.std.specs.Ordering.{eq_by_cmp}
use Rattle.std.specs.Cmp.Lexicographic.{nat_list_cmp_total, texts_ties}
use Rattle.std.proofs.lemmas.List.Folds.{list_any-append}
use Rattle.acap_entries.specs.Orders.{octets_cmp}
use Rattle.acap_entries.specs.Store.{Stored}
use Rattle.acap_entries.specs.declared.record.Cell.{Cell}
use Rattle.acap_entries.specs.declared.record.Cell.TheVariants.{Nil}
use Rattle.acap_entries.specs.declared.record.Record.{Record}
use Rattle.acap_entries.proofs.StoreLemmas.{octets_same}
use Rattle.acap_inherit.specs.Records.{record_at, cell_in}
use Rattle.acap_inherit.specs.Resolving.{lookup}
use Rattle.acap_inherit.specs.Laws.{NothingLaw}
use Rattle.acap_rights.specs.declared.realm.Realm.{Realm}
use Rattle.acap_rights.proofs.SharingLemmas.{tied}
use Rattle.acap_search.specs.Rows.{Names, put_star, stars_from, stars_of, attributes_in, attributes_on, attributes_at}
use Rattle.acap_search.specs.Sight.{answers_at, cell_at, may_read, rights_on, is_nil}

-- names are added one after the other
pub stars_more : (read : List ℕ → Cell) (front : List ℕ) (names more : List (List ℕ)) (m : Names) → stars_from read front (names ++ more) m ≡ stars_from read front more (stars_from read front names m)
stars_more read front [] more m = refl
stars_more read front (a ∷ rest) more m = stars_more read front rest more (put_star read front a m)

-- all attributes that have a value which is read are among some
pub record Covers (read : List ℕ → Cell) (names : List (List ℕ)) : Type 0 where
  pub others : (attribute : List ℕ) → list_any (eq_by_cmp octets_cmp attribute) names ≡ false → read attribute ≡ Nil

-- whether an attribute is listed, by what is read of it
abbrev pub is_listed : (List ℕ → Cell) → List ℕ → List ℕ → Bool
is_listed read front q = starts_with nat_eq q front && not (is_nil (read q))

abbrev star_at : (List ℕ → Cell) → List ℕ → List ℕ → Option Bool → Option Bool
star_at read front q other = cond (is_listed read front q) (Some true) other

star_twice : (b : Bool) (other : Option Bool) → cond b (Some true) (cond b (Some true) other) ≡ cond b (Some true) other
star_twice true other = refl
star_twice false other = refl

get_put : (b : Bool) (a q : List ℕ) (m : Names) → map.get (cond b (map.insert m a true) m) q ≡ cond (eq_by_cmp octets_cmp q a) (cond b (Some true) (map.get m q)) (map.get m q)
get_put true a q m = get-insert nat_list_cmp_total m a true q
get_put false a q m = elim (eq_by_cmp octets_cmp q a) as (λ e. map.get m q ≡ cond e (map.get m q) (map.get m q)) [ true ↦ refl | false ↦ refl ]

get_star : (read : List ℕ → Cell) (front a q : List ℕ) (m : Names) → map.get (put_star read front a m) q ≡ cond (eq_by_cmp octets_cmp q a) (star_at read front q (map.get m q)) (map.get m q)
get_star read front a q m =
    get_put (is_listed read front a) a q m
    ∙ elim (eq_by_cmp octets_cmp q a) as (λ e. eq_by_cmp octets_cmp q a ≡ e → cond e (star_at read front a (map.get m q)) (map.get m q) ≡ cond e (star_at read front q (map.get m q)) (map.get m q))
    [ true ↦ λ h. ap (λ k. star_at read front k (map.get m q)) (sym (tied q a h)) | false ↦ λ h. refl ] refl

get_stars : (read : List ℕ → Cell) (front : List ℕ) (names : List (List ℕ)) (m : Names) (q : List ℕ) → map.get (stars_from read front names m) q ≡ cond (list_any (eq_by_cmp octets_cmp q) names) (star_at read front q (map.get m q)) (map.get m q)
get_stars read front [] m q = refl
get_stars read front (a ∷ rest) m q =
    get_stars read front rest (put_star read front a m) q
    ∙ (ap (λ g. cond (list_any (eq_by_cmp octets_cmp q) rest) (star_at read front q g) g) (get_star read front a q m)
    ∙ elim (eq_by_cmp octets_cmp q a) as (λ e. cond (list_any (eq_by_cmp octets_cmp q) rest) (star_at read front q (cond e (star_at read front q (map.get m q)) (map.get m q))) (cond e (star_at read front q (map.get m q)) (map.get m q)) ≡ cond (e || list_any (eq_by_cmp octets_cmp q) rest) (star_at read front q (map.get m q)) (map.get m q)) [
      | true ↦ elim (list_any (eq_by_cmp octets_cmp q) rest) as (λ l. cond l (star_at read front q (star_at read front q (map.get m q))) (star_at read front q (map.get m q)) ≡ star_at read front q (map.get m q))
          [ true ↦ star_twice (is_listed read front q) (map.get m q) | false ↦ refl ]
      | false ↦ refl
    ])

unread : (b : Bool) (c : Cell) → c ≡ Nil → cond (b && not (is_nil c)) (Some true) None ≡ None
unread b c h = ap (λ x. cond (b && not (is_nil x)) (Some true) None) h ∙ elim b as (λ v. cond (v && false) (Some true) None ≡ None) [ true ↦ refl | false ↦ refl ]

-- those that are listed, whatever the names that were tried
pub get_stars_of : (read : List ℕ → Cell) (names : List (List ℕ)) (front q : List ℕ) → Covers read names → map.get (stars_of read names front) q ≡ cond (is_listed read front q) (Some true) None
unfolding stars_of
get_stars_of read names front q h =
    get_stars read front names map.empty q
    ∙ (ap (λ g. cond (list_any (eq_by_cmp octets_cmp q) names) (star_at read front q g) g) (get-empty octets_cmp q)
    ∙ elim (list_any (eq_by_cmp octets_cmp q) names) as (λ l. list_any (eq_by_cmp octets_cmp q) names ≡ l → cond l (star_at read front q None) None ≡ star_at read front q None)
    [ true ↦ λ e. refl | false ↦ λ e. sym (unread (starts_with nat_eq q front) (read q) (h.others q e)) ] refl)

pub same_stars : (read : List ℕ → Cell) (names more : List (List ℕ)) (front : List ℕ) → Covers read names → Covers read more → stars_of read names front ≡ stars_of read more front
same_stars read names more front g h =
    same_map nat_list_cmp_total octets_same _ _ (λ q. get_stars_of read names front q g ∙ sym (get_stars_of read more front q h))

-- ---- the attributes along a chain are all that have a value there

none_at : (m : Option Cell) → is_some m ≡ false → m ≡ None
none_at None h = refl
none_at (Some c) h = absurd (cc)

not_in : (o : Option Record) (attribute : List ℕ) → list_any (eq_by_cmp octets_cmp attribute) (attributes_in o) ≡ false → option_and_then (λ entry. cell_in entry attribute) o ≡ None
not_in None attribute h = refl
not_in (Some r) attribute h =
    elim r.present as (λ b. cond b (map.get r.cells attribute) None ≡ None) [ true ↦ none_at _ (contains_key-keys r.cells attribute ∙ h) | false ↦ refl ]

not_on : (records : Stored) (name attribute : List ℕ) (chain : List (List ℕ)) → list_any (eq_by_cmp octets_cmp attribute) (attributes_on records name chain) ≡ false → (dataset : List ℕ) → Contains chain dataset → option_and_then (λ entry. cell_in entry attribute) (record_at records dataset name) ≡ None
not_on records name attribute [] h dataset k = absurd (omega (arith, k.1))
not_on records name attribute (d ∷ ds) h dataset (zero, lt, e) =
    let two = or_parts _ _ (sym (list_any-append (eq_by_cmp octets_cmp attribute) (attributes_in (record_at records d name)) (attributes_on records name ds)) ∙ h) in
    ap (λ x. option_and_then (λ entry. cell_in entry attribute) (record_at records x name)) (sym e) ∙ not_in (record_at records d name) attribute two.0
not_on records name attribute (d ∷ ds) h dataset (suc i, lt, e) =
    let less : i < length ds = omega (arith, lt) in
    let two = or_parts _ _ (sym (list_any-append (eq_by_cmp octets_cmp attribute) (attributes_in (record_at records d name)) (attributes_on records name ds)) ∙ h) in
    not_on records name attribute ds two.1 dataset (i, less, e)

resolved_none : NothingLaw → (records : Stored) (chain : List (List ℕ)) (name attribute : List ℕ) → list_any (eq_by_cmp octets_cmp attribute) (attributes_at records name chain) ≡ false → lookup records chain name attribute ≡ None
resolved_none nothing records chain name attribute h =
    let first = or_parts _ _ h in
    let second = or_parts _ _ first.1 in
    nothing.attribute records chain name attribute (texts_ties attribute _ ∙ first.0) (texts_ties attribute _ ∙ second.0) (not_on records name attribute chain second.1)

pub covers : NothingLaw → (records : Stored) (realm : Realm) (user dataset : List ℕ) (chain : List (List ℕ)) (name : List ℕ) → Covers (answers_at records realm user dataset chain name).read (attributes_at records name chain)
covers nothing records realm user dataset chain name = record {
  others = λ attribute h. ap (λ f. cell_at may_read (rights_on records realm user attribute name dataset) (λ d. rights_on records realm user attribute name d) f) (resolved_none nothing records chain name attribute h);
}
