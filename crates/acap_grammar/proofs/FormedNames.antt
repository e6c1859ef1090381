-- Names are read exactly where they are well formed.
use Rattle.std.proofs.Common.{◌≡◌, ℕ, zero, suc, ◌+◌, ◌-◌, ◌<◌, ◌≤◌, Bool, true, false, not, List, [], ◌∷◌, ◌++◌, length, take, drop, reverse, get_or, Some, Result, Ok, Err, refl, sym, ap, subst, ◌∙◌, arith, append_assoc, length-append, ◌⊎◌, inl, inr}
use Rattle.std.specs.Prelude.{if◌then◌else◌, ◌||◌, ◌&&◌, ◌==◌, nat_le, slice_index}
use Rattle.std.specs.List.{All, AllByRecursion, list_all, slice_split, onto_first, prefix_len, suffix_len}
use Rattle.std.proofs.lemmas.Bool.{and_parts, and_from, or_parts, or_from, or_right, not-true, not-false, not_from_false, leb-true, ltb-true, le-leb, lt-ltb, eqb-false, ne_eqb}
use Rattle.std.proofs.lemmas.Bool.Decides.{nat_tests}
use Rattle.std.proofs.lemmas.List.{length-take-le, take-append-drop, get_or-reverse, length-reverse, reverse-append}
use Rattle.std.proofs.lemmas.List.Elements.{All-nil, All-cons}
use Rattle.std.proofs.lemmas.List.Folds.{list_all-append}
use Rattle.std.proofs.lemmas.List.Splits.{slice_split_none, slice_split_at}
use Rattle.std.proofs.lemmas.List.Sums.{prefix_len_stops, suffix_len-le-length}
use Rattle.std.proofs.lemmas.Str.{IsUtf8-from_is_utf8, is_utf8-from_IsUtf8}
use Rattle.std.proofs.Math.Seq.{take-append_seam, drop-append_seam}
use borrow.Author.Tests.{eqb-true}
use Rattle.acap_lexer.proofs.SpelledTokens.{longest}
use Rattle.acap_entries.specs.Names.{is_slash, slash, dot, star, percent, nul, has, begins_with, ends_with, is_component, components, dataset_len, dataset_of, name_of, is_entry_name, step_count, is_path, is_dataset_argument, is_attribute, is_context_name, with_slash}
use Rattle.acap_entries.specs.declared.path.Path.{Path}
use Rattle.acap_entries.proofs.NameLemmas.{closed_by_slash, part_count, path_has_dataset, same_parts, taken_closed}
use Rattle.acap_entries.proofs.FormLemmas.{entry_plain}
use Rattle.acap_grammar.specs.declared.command_fault.CommandFault.{CommandFault}
use Rattle.acap_commands.specs.declared.returns.ReturnName.{ReturnName}
use Rattle.acap_commands.specs.declared.returns.ReturnName.TheVariants as name
use Rattle.acap_commands.specs.declared.target.Target.{Target}
use Rattle.acap_commands.specs.declared.target.Target.TheVariants as target
use Rattle.acap_grammar.specs.Arguments.{if_named, path_named, dataset_named, entry_named, attribute_named, context_named, target_named}
use Rattle.acap_grammar.specs.Formed.{Lacks, BeginsOther, IsComponent, closed_each, IsMadeOf, IsFormed, IsFormedDataset, IsFormedAttribute, IsFormedContext, IsFormedReturn, IsFormedTarget, NamesLaw}
use Rattle.acap_grammar.specs.Outcome.{◌>>=◌}
use Rattle.acap_grammar.specs.Searching.{return_named}
use Rattle.acap_grammar.specs.Sendable.{Names, IsDataset}
use Rattle.acap_grammar.specs.Spelling.{dataset_text, return_text, target_text}
use Rattle.acap_grammar.proofs.NamedReads.{end_again, ends_here, ends_behind, ends_same, with_end, without_end, all_behind, no_slash_behind, components_closed, components_open, IsArgument, argument, by_argument, read_back}

-- ---- components

lacks : (octet : ℕ) (text : List ℕ) → has octet text ≡ false → Lacks octet text
lacks octet [] h = tt
lacks octet (x ∷ text) h = let p = or_parts (x == octet) (has octet text) h in (eqb-false x octet p.0, lacks octet text p.1)

has_none : (octet : ℕ) (text : List ℕ) → Lacks octet text → has octet text ≡ false
has_none octet [] h = refl
has_none octet (x ∷ text) h = or_from (x == octet) (has octet text) (ne_eqb x octet h.0) (has_none octet text h.1)

begins_other : (octet : ℕ) (text : List ℕ) → begins_with octet text ≡ false → BeginsOther octet text
begins_other octet [] h e = cc
begins_other octet (x ∷ text) h e = let same : x ≡ octet = cc in eqb-false x octet h same

no_beginning : (octet : ℕ) (text : List ℕ) → BeginsOther octet text → begins_with octet text ≡ false
no_beginning octet [] h = refl
no_beginning octet (x ∷ text) h = ne_eqb x octet (λ e. h (ap Some e))

component_is : (c : List ℕ) → is_component c ≡ true → IsComponent c
unfolding is_component
component_is c h =
    let a = and_parts _ _ h in
    let b = and_parts _ _ a.0 in
    let d = and_parts _ _ b.0 in
    let e = and_parts _ _ d.0 in
    record {
      some = ltb-true 0 (length c) e.0;
      utf8 = IsUtf8-from_is_utf8 c e.1;
      no_nul = lacks nul c (not-true (has nul c) d.1);
      no_slash = lacks slash c (not-true (has slash c) b.1);
      no_dot = begins_other dot c (not-true (begins_with dot c) a.1);
    }

by_component : (c : List ℕ) → IsComponent c → is_component c ≡ true
unfolding is_component
by_component c h =
    and_from _ _ (and_from _ _ (and_from _ _ (and_from _ _ (lt-ltb 0 (length c) h.some) (is_utf8-from_IsUtf8 c h.utf8))
    (not_from_false _ (has_none nul c h.no_nul))) (not_from_false _ (has_none slash c h.no_slash))) (not_from_false _ (no_beginning dot c h.no_dot))

by_components : (cs : List (List ℕ)) → AllByRecursion IsComponent cs → list_all is_component cs ≡ true
by_components [] h = refl
by_components (c ∷ cs) h = and_from _ _ (by_component c h.0) (by_components cs h.1)

components_are : (cs : List (List ℕ)) → list_all is_component cs ≡ true → AllByRecursion IsComponent cs
components_are [] h = tt
components_are (c ∷ cs) h = let p = and_parts (is_component c) (list_all is_component cs) h in (component_is c p.0, components_are cs p.1)

-- ---- datasets

closed_onto : (x : ℕ) (parts : List (List ℕ)) → 0 < length parts → closed_each (onto_first x parts) ≡ x ∷ closed_each parts
closed_onto x [] h = absurd (omega arith)
closed_onto x (c ∷ parts) h = refl

closed_split : (xs : List ℕ) → closed_each (slice_split is_slash xs) ≡ xs ++ slash ∷ []
closed_split [] = refl
closed_split (x ∷ xs) = by_slash (is_slash x) refl (closed_split xs) where
  by_slash : (b : Bool) → is_slash x ≡ b → closed_each (slice_split is_slash xs) ≡ xs ++ slash ∷ [] → closed_each (if b then [] ∷ slice_split is_slash xs else onto_first x (slice_split is_slash xs)) ≡ x ∷ (xs ++ slash ∷ [])
  by_slash true e more = let same : slash ≡ x = sym (eqb-true x slash e) in ap (λ (t : List ℕ). slash ∷ t) more ∙ ap (λ (n : ℕ). n ∷ (xs ++ slash ∷ [])) same
  by_slash false e more = closed_onto x (slice_split is_slash xs) (omega (arith, part_count xs)) ∙ ap (λ (t : List ℕ). x ∷ t) more

closed_is : (text : List ℕ) → begins_with slash text ≡ true → with_slash text ≡ slash ∷ closed_each (components text)
unfolding components
closed_is [] b = absurd cc
closed_is (x ∷ []) b = rw b (ap (λ (n : ℕ). n ∷ []) (eqb-true x slash b))
closed_is (x ∷ y ∷ ys) b = by_end (ends_with slash (x ∷ y ∷ ys)) refl where
  by_end : (t : Bool) → ends_with slash (x ∷ y ∷ ys) ≡ t → (if t then x ∷ y ∷ ys else x ∷ y ∷ (ys ++ slash ∷ [])) ≡ slash ∷ closed_each (components (x ∷ y ∷ ys))
  by_end true e =
      let front = take (length (y ∷ ys) - 1) (y ∷ ys) in
      let whole : front ++ slash ∷ [] ≡ y ∷ ys = with_end slash (y ∷ ys) (sym (ends_same slash (x ∷ y ∷ ys)) ∙ e) in
      let parts : closed_each (components (x ∷ y ∷ ys)) ≡ y ∷ ys =
      ap (λ (t : List ℕ). closed_each (components (x ∷ t))) (sym whole) ∙ ap closed_each (components_closed x front) ∙ closed_split front ∙ whole in
      ap (λ (n : ℕ). n ∷ y ∷ ys) (eqb-true x slash b) ∙ ap (λ (t : List ℕ). slash ∷ t) (sym parts)
  by_end false e =
      let parts : closed_each (components (x ∷ y ∷ ys)) ≡ y ∷ (ys ++ slash ∷ []) = ap closed_each (components_open x y ys e) ∙ closed_split (y ∷ ys) in
      ap (λ (n : ℕ). n ∷ y ∷ (ys ++ slash ∷ [])) (eqb-true x slash b) ∙ ap (λ (t : List ℕ). slash ∷ t) (sym parts)

made_of : (text : List ℕ) → begins_with slash text ≡ true → list_all is_component (components text) ≡ true → IsMadeOf (components text) (with_slash text)
made_of text b h = record { each = components_are (components text) h; whole = closed_is text b }

closed_ends : (text : List ℕ) → ends_with slash (with_slash text) ≡ true
closed_ends text = by_end (ends_with slash text) refl where
  by_end : (b : Bool) → ends_with slash text ≡ b → ends_with slash (if b then text else text ++ slash ∷ []) ≡ true
  by_end true e = e
  by_end false e = closed_by_slash text

-- what a name that was read was, and what it was read as
record WasRead (text d : List ℕ) : Type 0 where
  good : is_dataset_argument text ≡ true
  is : with_slash text ≡ d

was_read : (text d : List ℕ) → dataset_named text ≡ Ok d → WasRead text d
unfolding dataset_named
was_read text d e = by_good (is_dataset_argument text) refl e where
  by_good : (b : Bool) → is_dataset_argument text ≡ b → if_named b (with_slash text) ≡ Ok d → WasRead text d
  by_good true h f = record { good = h; is = cc }
  by_good false h f = absurd cc

-- without its closing slash it has no more octets than were sent
shorter_text : (x : ℕ) (b : List ℕ) → dataset_text (x ∷ (b ++ slash ∷ [])) ≡ x ∷ b
shorter_text x b =
    let size : length (b ++ slash ∷ []) ≡ length b + 1 = length-append b (slash ∷ []) in
    let long : nat_le (length (x ∷ (b ++ slash ∷ []))) 1 ≡ false = grind (arith, nat_tests, size) in
    rw (long, without_end slash (x ∷ b)) refl

no_longer : (text : List ℕ) → length (dataset_text text) ≤ length text
no_longer text = by_size (nat_le (length text) 1) where
  by_size : (b : Bool) → length (if b then text else take (length text - 1) text) ≤ length text
  by_size true = omega arith
  by_size false = let size = length-take-le (length text - 1) text (omega arith) in omega (arith, size)

as_sent : (text : List ℕ) → begins_with slash text ≡ true → length (dataset_text (with_slash text)) ≤ length text
as_sent [] h = absurd cc
as_sent (x ∷ text) h = by_end (ends_with slash (x ∷ text)) where
  by_end : (b : Bool) → length (dataset_text (if b then x ∷ text else x ∷ (text ++ slash ∷ []))) ≤ length (x ∷ text)
  by_end true = no_longer (x ∷ text)
  by_end false = let size = ap (λ (t : List ℕ). length t) (shorter_text x text) in omega (arith, size)

dataset_formed : (text d : List ℕ) → dataset_named text ≡ Ok d → IsFormedDataset d
dataset_formed text d e =
    let w = was_read text d e in
    let a = argument text w.good in
    let size : length text ≤ 1024 = leb-true (length text) 1024 a.size in
    let sent : length (dataset_text (with_slash text)) ≤ 1024 = omega (arith, size, as_sent text a.begins) in
    record {
      components = components text;
      is = subst (λ (t : List ℕ). IsMadeOf (components text) t) w.is (made_of text a.begins a.parts);
      few = leb-true (length (components text)) 16 a.few;
      octets = subst (λ (t : List ℕ). length (dataset_text t) ≤ 1024) w.is sent;
    }

pub formed_dataset : (d : List ℕ) → IsDataset d → IsFormedDataset d
formed_dataset d e = dataset_formed (dataset_text d) d e

ends_in_slash : (d : List ℕ) → IsDataset d → ends_with slash d ≡ true
ends_in_slash d e = let w = was_read (dataset_text d) d e in ap (ends_with slash) (sym w.is) ∙ closed_ends (dataset_text d)

-- ---- paths

abbrev no_slash : ℕ → Bool
no_slash octet = not (is_slash octet)

last_before : (text : List ℕ) (k : ℕ) → suffix_len no_slash text ≡ k → k < length text → slice_index text (length text - k - 1) ≡ slash
last_before text k e lt =
    let within : suffix_len no_slash text < length (reverse text) = omega (arith, e, length-reverse text) in
    let stops : no_slash (get_or (reverse text) k 0) ≡ false = subst (λ (n : ℕ). no_slash (get_or (reverse text) n 0) ≡ false) e (prefix_len_stops no_slash (reverse text) 0 within) in
    let at : length text - 1 - k ≡ length text - k - 1 = omega arith in
    let found : get_or (reverse text) k 0 ≡ get_or text (length text - k - 1) 0 = get_or-reverse text k 0 lt ∙ ap (λ (n : ℕ). get_or text n 0) at in
    sym found ∙ eqb-true _ slash (not-false _ stops)

some_taken : (n : ℕ) (xs : List ℕ) → 0 < length (take n xs) → 0 < n
some_taken zero xs h = absurd (omega arith)
some_taken (suc n) xs h = omega arith

dataset_ends : (text : List ℕ) → 0 < length (dataset_of text) → ends_with slash (dataset_of text) ≡ true
unfolding dataset_of
dataset_ends text some =
    let n = dataset_len text in
    let first : 0 < dataset_len text = some_taken (dataset_len text) text some in
    let last = last_before text (suffix_len no_slash text) refl (omega (arith, first, suffix_len-le-length no_slash text)) in
    taken_closed (dataset_len text) text first (omega arith) last

record IsGoodPath (text : List ℕ) : Type 0 where
  size : nat_le (length text) 1024 ≡ true
  begins : begins_with slash (dataset_of text) ≡ true
  parts : list_all is_component (components (dataset_of text)) ≡ true
  name : is_entry_name (name_of text) ≡ true
  few : nat_le (step_count text) 16 ≡ true

good_path : (text : List ℕ) → is_path text ≡ true → IsGoodPath text
unfolding is_path
good_path text h =
    let a = and_parts _ _ h in
    let b = and_parts _ _ a.0 in
    let c = and_parts _ _ b.0 in
    let d = and_parts _ _ c.1 in
    record { size = c.0; begins = d.0; parts = d.1; name = b.1; few = a.1 }

name_steps : (n : List ℕ) (count : ℕ) → is_entry_name n ≡ true → count + (if length n == 0 then 0 else 1) ≤ 16 → ((n ≡ []) × (count ≤ 16)) ⊎ (IsComponent n × (count < 16))
name_steps [] count h few = inl (refl, omega arith)
name_steps (x ∷ n) count h few =
    let some : (length (x ∷ n) == 0) ≡ false = grind (arith, nat_tests) in
    let c : is_component (x ∷ n) ≡ true = subst (λ (b : Bool). (if b then true else is_component (x ∷ n)) ≡ true) some h in
    let f : count + 1 ≤ 16 = subst (λ (b : Bool). count + (if b then 0 else 1) ≤ 16) some few in
    inr (component_is (x ∷ n) c, omega (arith, f))

formed_parts : (text : List ℕ) → is_path text ≡ true → IsFormed (record { dataset = dataset_of text; name = name_of text })
unfolding dataset_of name_of
formed_parts text h =
    let g = good_path text h in
    let ends = dataset_ends text (path_has_dataset text h) in
    let same : with_slash (dataset_of text) ≡ dataset_of text = rw ends refl in
    record {
      components = components (dataset_of text);
      dataset = subst (λ (t : List ℕ). IsMadeOf (components (dataset_of text)) t) same (made_of (dataset_of text) g.begins g.parts);
      name = name_steps (name_of text) (length (components (dataset_of text))) g.name (leb-true (step_count text) 16 g.few);
      octets = omega (arith, ap (λ (t : List ℕ). length t) (take-append-drop (dataset_len text) text), leb-true (length text) 1024 g.size);
    }

pub formed_path : (p : Path) → Names path_named (p.dataset ++ p.name) p → IsFormed p
unfolding path_named
formed_path p e = by_good (is_path (p.dataset ++ p.name)) refl e where
  by_good : (b : Bool) → is_path (p.dataset ++ p.name) ≡ b → if_named b (record { dataset = dataset_of (p.dataset ++ p.name); name = name_of (p.dataset ++ p.name) }) ≡ Ok p → IsFormed p
  by_good true h f =
      let same : record { dataset = dataset_of (p.dataset ++ p.name); name = name_of (p.dataset ++ p.name) } ≡ p = cc in
      subst IsFormed same (formed_parts (p.dataset ++ p.name) h)
  by_good false h f = absurd cc

pub formed_entry : (d n : List ℕ) → IsDataset d → Names (entry_named d) n n → IsFormed (record { dataset = d; name = n })
unfolding entry_named dataset_of name_of
formed_entry d n k e = by_good (is_entry_name n && is_path (d ++ n)) refl e where
  both : is_entry_name n && is_path (d ++ n) ≡ true → IsFormed (record { dataset = d; name = n })
  both h =
      let a = and_parts (is_entry_name n) (is_path (d ++ n)) h in
      let whole : dataset_of (d ++ n) ++ name_of (d ++ n) ≡ d ++ n = take-append-drop (dataset_len (d ++ n)) (d ++ n) in
      let ends = dataset_ends (d ++ n) (path_has_dataset (d ++ n) a.1) in
      let parts = same_parts (dataset_of (d ++ n)) d (name_of (d ++ n)) n (entry_plain (name_of (d ++ n)) (good_path (d ++ n) a.1).name) (entry_plain n a.0) ends (ends_in_slash d k) whole in
      let same : ◌≡◌ {A = Path} (record { dataset = dataset_of (d ++ n); name = name_of (d ++ n) }) (record { dataset = d; name = n }) = rw (parts.0, parts.1) refl in
      subst IsFormed same (formed_parts (d ++ n) a.1)

  by_good : (b : Bool) → is_entry_name n && is_path (d ++ n) ≡ b → if_named b n ≡ Ok n → IsFormed (record { dataset = d; name = n })
  by_good true h f = both h
  by_good false h f = absurd cc

-- ---- well-formed names are read

-- the components with a slash between them
abbrev bare : List ℕ → List (List ℕ) → List ℕ
bare c [] = c
bare c (d ∷ cs) = c ++ slash ∷ bare d cs

closed_bare : (c : List ℕ) (cs : List (List ℕ)) → closed_each (c ∷ cs) ≡ bare c cs ++ slash ∷ []
closed_bare c [] = refl
closed_bare c (d ∷ cs) = ap (λ (t : List ℕ). c ++ slash ∷ t) (closed_bare d cs) ∙ sym (append_assoc c (slash ∷ bare d cs) (slash ∷ []))

no_slashes : (c : List ℕ) → Lacks slash c → All (λ x. is_slash x ≡ false) c
no_slashes [] h = All-nil _
no_slashes (x ∷ c) h = All-cons (λ n. is_slash n ≡ false) x c (ne_eqb x slash h.0) (no_slashes c h.1)

split_bare : (c : List ℕ) (cs : List (List ℕ)) → AllByRecursion IsComponent (c ∷ cs) → slice_split is_slash (bare c cs) ≡ c ∷ cs
split_bare c [] h = slice_split_none is_slash c (no_slashes c h.0.no_slash)
split_bare c (d ∷ cs) h = slice_split_at is_slash c slash (bare d cs) (no_slashes c h.0.no_slash) refl ∙ ap (λ (t : List (List ℕ)). c ∷ t) (split_bare d cs h.1)

-- the components of a dataset are those that it is made of, and it ends in a slash
components_back : (cs : List (List ℕ)) → AllByRecursion IsComponent cs → components (slash ∷ closed_each cs) ≡ cs
unfolding components
components_back [] h = refl
components_back (c ∷ cs) h = ap (λ (t : List ℕ). components (slash ∷ t)) (closed_bare c cs) ∙ components_closed slash (bare c cs) ∙ split_bare c cs h

ends_closed : (cs : List (List ℕ)) → ends_with slash (slash ∷ closed_each cs) ≡ true
ends_closed [] = refl
ends_closed (c ∷ cs) = ap (λ (t : List ℕ). ends_with slash (slash ∷ t)) (closed_bare c cs) ∙ closed_by_slash (slash ∷ bare c cs)

all_reversed : (p : ℕ → Bool) (xs : List ℕ) → list_all p xs ≡ true → list_all p (reverse xs) ≡ true
all_reversed p [] h = refl
all_reversed p (x ∷ xs) h =
    let q = and_parts (p x) (list_all p xs) h in
    ap (list_all p) (reverse-append (x ∷ []) xs) ∙ list_all-append p (reverse xs) (x ∷ []) ∙ and_from _ _ (all_reversed p xs q.1) (and_from _ _ q.0 refl)

only_others : (n : List ℕ) → Lacks slash n → list_all no_slash n ≡ true
only_others [] h = refl
only_others (x ∷ n) h = and_from _ _ (not_from_false _ (ne_eqb x slash h.0)) (only_others n h.1)

-- a path is cut after its dataset
cut_behind : (front n : List ℕ) → Lacks slash n → suffix_len no_slash ((front ++ slash ∷ []) ++ n) ≡ length n
cut_behind front n h =
    let turned : reverse ((front ++ slash ∷ []) ++ n) ≡ reverse n ++ slash ∷ reverse front =
    reverse-append (front ++ slash ∷ []) n ∙ ap (λ (t : List ℕ). reverse n ++ t) (reverse-append front (slash ∷ [])) in
    ap (prefix_len no_slash) turned ∙ longest no_slash (reverse n) (slash ∷ reverse front) (all_reversed no_slash n (only_others n h)) refl ∙ length-reverse n

dataset_length : (d n : List ℕ) → ends_with slash d ≡ true → Lacks slash n → dataset_len (d ++ n) ≡ length d
dataset_length d n e h =
    let front = take (length d - 1) d in
    let behind : suffix_len no_slash (d ++ n) ≡ length n = ap (λ (t : List ℕ). suffix_len no_slash (t ++ n)) (sym (end_again slash d e)) ∙ cut_behind front n h in
    omega (arith, behind, length-append d n)

record IsCut (d n : List ℕ) : Type 0 where
  dataset : dataset_of (d ++ n) ≡ d
  name : name_of (d ++ n) ≡ n

cut : (d n : List ℕ) → ends_with slash d ≡ true → Lacks slash n → IsCut d n
unfolding dataset_of name_of
cut d n e h = let k = dataset_length d n e h in record { dataset = ap (λ (i : ℕ). take i (d ++ n)) k ∙ take-append_seam d n; name = ap (λ (i : ℕ). drop i (d ++ n)) k ∙ drop-append_seam d n }

-- what is so of a name that may be empty
record IsName (n : List ℕ) (count : ℕ) : Type 0 where
  lacks : Lacks slash n
  good : is_entry_name n ≡ true
  few : count + (if length n == 0 then 0 else 1) ≤ 16

name_is : (n : List ℕ) (count : ℕ) → ((n ≡ []) × (count ≤ 16)) ⊎ (IsComponent n × (count < 16)) → IsName n count
name_is n count (inl h) = subst (λ (t : List ℕ). IsName t count) (sym h.0) (record { lacks = tt; good = refl; few = omega (arith, h.1) })
name_is n count (inr h) =
    let none : (length n == 0) ≡ false = let some = h.0.some in ne_eqb (length n) 0 (λ e. omega (arith, some, e)) in
    record { lacks = h.0.no_slash; good = rw none (by_component n h.0); few = rw none (omega (arith, h.1)) }

pub path_is_good : (d n : List ℕ) (cs : List (List ℕ)) → IsMadeOf cs d → ((n ≡ []) × (length cs ≤ 16)) ⊎ (IsComponent n × (length cs < 16)) → length (d ++ n) ≤ 1024 → path_named (d ++ n) ≡ Ok (record { dataset = d; name = n })
unfolding path_named is_path
path_is_good d n cs m name octets =
    let ends : ends_with slash d ≡ true = ap (ends_with slash) m.whole ∙ ends_closed cs in
    let i = name_is n (length cs) name in
    let k = cut d n ends i.lacks in
    let parts : components d ≡ cs = ap components m.whole ∙ components_back cs m.each in
    let begins : begins_with slash d ≡ true = ap (begins_with slash) m.whole in
    let all : list_all is_component (components d) ≡ true = ap (list_all is_component) parts ∙ by_components cs m.each in
    let steps : length (components d) + (if length n == 0 then 0 else 1) ≤ 16 = subst (λ (all : List (List ℕ)). length all + (if length n == 0 then 0 else 1) ≤ 16) (sym parts) i.few in
    rw (le-leb (length (d ++ n)) 1024 octets, k.dataset, k.name, begins, all, i.good, le-leb (length (components d) + (if length n == 0 then 0 else 1)) 16 steps) refl

read_between : (b : List ℕ) → list_all is_component (slice_split is_slash b) ≡ true → length (slice_split is_slash b) ≤ 16 → length (slash ∷ b) ≤ 1024 → IsDataset (slash ∷ (b ++ slash ∷ []))
unfolding is_component
read_between [] parts few octets = absurd cc
read_between (y ∷ ys) parts few octets =
    let ends : ends_with slash (slash ∷ y ∷ ys) ≡ false = ends_same slash (slash ∷ y ∷ ys) ∙ no_slash_behind (y ∷ ys) (all_behind (slice_split is_slash (y ∷ ys)) parts) in
    let are : components (slash ∷ y ∷ ys) ≡ slice_split is_slash (y ∷ ys) = components_open slash y ys ends in
    let a : IsArgument (slash ∷ y ∷ ys) = record {
      size = le-leb (length (slash ∷ y ∷ ys)) 1024 octets;
      begins = refl;
      parts = ap (list_all is_component) are ∙ parts;
      few = ap (λ (cs : List (List ℕ)). nat_le (length cs) 16) are ∙ le-leb (length (slice_split is_slash (y ∷ ys))) 16 few;
    } in
    read_back (slash ∷ y ∷ ys) (slash ∷ ((y ∷ ys) ++ slash ∷ [])) (by_argument (slash ∷ y ∷ ys) a) (rw ends refl) (shorter_text slash (y ∷ ys))

made_good : (cs : List (List ℕ)) → AllByRecursion IsComponent cs → length cs ≤ 16 → length (dataset_text (slash ∷ closed_each cs)) ≤ 1024 → IsDataset (slash ∷ closed_each cs)
unfolding dataset_named is_dataset_argument components
made_good [] h few octets = refl
made_good (c ∷ cs) h few octets =
    let b = bare c cs in
    let whole : closed_each (c ∷ cs) ≡ bare c cs ++ slash ∷ [] = closed_bare c cs in
    let split : slice_split is_slash (bare c cs) ≡ c ∷ cs = split_bare c cs h in
    let text_is : dataset_text (slash ∷ closed_each (c ∷ cs)) ≡ slash ∷ bare c cs = ap (λ (t : List ℕ). dataset_text (slash ∷ t)) whole ∙ shorter_text slash (bare c cs) in
    subst (λ (t : List ℕ). IsDataset (slash ∷ t)) (sym whole)
    (read_between (bare c cs) (ap (list_all is_component) split ∙ by_components (c ∷ cs) h) (subst (λ (all : List (List ℕ)). length all ≤ 16) (sym split) few) (subst (λ (t : List ℕ). length t ≤ 1024) text_is octets))

dataset_is_good : (d : List ℕ) → IsFormedDataset d → IsDataset d
dataset_is_good d f = subst IsDataset (sym f.is.whole) (made_good f.components f.is.each f.few (subst (λ (t : List ℕ). length (dataset_text t) ≤ 1024) f.is.whole f.octets))

-- with its closing slash too, where that is no octet too many
closed_read : (cs : List (List ℕ)) → AllByRecursion IsComponent cs → length cs ≤ 16 → length (slash ∷ closed_each cs) ≤ 1024
    → dataset_named (slash ∷ closed_each cs) ≡ Ok (slash ∷ closed_each cs)
unfolding dataset_named
closed_read cs h few octets =
    let text : List ℕ = slash ∷ closed_each cs in
    let are : components text ≡ cs = components_back cs h in
    let a : IsArgument text = record {
      size = le-leb (length text) 1024 octets;
      begins = refl;
      parts = ap (list_all is_component) are ∙ by_components cs h;
      few = ap (λ (all : List (List ℕ)). nat_le (length all) 16) are ∙ le-leb (length cs) 16 few;
    } in
    rw (by_argument text a, ends_closed cs) refl

closed_is_good : (d : List ℕ) → IsFormedDataset d → length d ≤ 1024 → dataset_named d ≡ Ok d
closed_is_good d f octets =
    subst (λ (t : List ℕ). dataset_named t ≡ Ok t) (sym f.is.whole)
    (closed_read f.components f.is.each f.few (subst (λ (t : List ℕ). length t ≤ 1024) f.is.whole octets))

sent_octets : (text d : List ℕ) → dataset_named text ≡ Ok d → length text ≤ 1024
sent_octets text d e = leb-true (length text) 1024 (argument text (was_read text d e).good).size

-- it was sent with its closing slash or without it
sent_as : (text d : List ℕ) → begins_with slash text ≡ true → with_slash text ≡ d → (text ≡ d) ⊎ (text ≡ dataset_text d)
sent_as [] d b e = absurd cc
sent_as (x ∷ text) d b e = by_end (ends_with slash (x ∷ text)) e where
  by_end : (t : Bool) → (if t then x ∷ text else x ∷ (text ++ slash ∷ [])) ≡ d → (x ∷ text ≡ d) ⊎ (x ∷ text ≡ dataset_text d)
  by_end true f = inl f
  by_end false f = inr (sym (shorter_text x text) ∙ ap dataset_text f)

-- a dataset that was read is read back without its closing slash
pub dataset_back : (text d : List ℕ) → dataset_named text ≡ Ok d → IsDataset d
dataset_back text d e = dataset_is_good d (dataset_formed text d e)

-- ---- attributes and contexts

attribute_is : (a : List ℕ) → is_attribute a ≡ true → IsFormedAttribute a
unfolding is_attribute
attribute_is text h =
    let a = and_parts _ _ h in
    let b = and_parts _ _ a.0 in
    let c = and_parts _ _ b.0 in
    let d = and_parts _ _ c.0 in
    let e = and_parts _ _ d.0 in
    record {
      some = ltb-true 0 (length text) e.0;
      few = leb-true (length text) 200 e.1;
      utf8 = IsUtf8-from_is_utf8 text d.1;
      no_nul = lacks nul text (not-true (has nul text) c.1);
      no_star = lacks star text (not-true (has star text) b.1);
      no_percent = lacks percent text (not-true (has percent text) a.1);
    }

by_attribute : (a : List ℕ) → IsFormedAttribute a → is_attribute a ≡ true
unfolding is_attribute
by_attribute text f =
    and_from _ _ (and_from _ _ (and_from _ _ (and_from _ _ (and_from _ _ (lt-ltb 0 (length text) f.some) (le-leb (length text) 200 f.few)) (is_utf8-from_IsUtf8 text f.utf8))
    (not_from_false _ (has_none nul text f.no_nul))) (not_from_false _ (has_none star text f.no_star))) (not_from_false _ (has_none percent text f.no_percent))

context_is : (c : List ℕ) → is_context_name c ≡ true → IsFormedContext c
unfolding is_context_name
context_is text h =
    let a = and_parts _ _ h in
    let b = and_parts _ _ a.0 in
    let c = and_parts _ _ b.0 in
    record {
      some = ltb-true 0 (length text) c.0;
      few = leb-true (length text) 255 c.1;
      utf8 = IsUtf8-from_is_utf8 text b.1;
      no_slash = begins_other slash text (not-true (begins_with slash text) a.1);
    }

by_context : (c : List ℕ) → IsFormedContext c → is_context_name c ≡ true
unfolding is_context_name
by_context text f =
    and_from _ _ (and_from _ _ (and_from _ _ (lt-ltb 0 (length text) f.some) (le-leb (length text) 255 f.few)) (is_utf8-from_IsUtf8 text f.utf8)) (not_from_false _ (no_beginning slash text f.no_slash))

-- a name that is read as it is
same_name : (good : Bool) (text x : List ℕ) → if_named good text ≡ Ok x → (good ≡ true) × (text ≡ x)
same_name true text x e = (refl, cc)
same_name false text x e = absurd cc

same_path : (good : Bool) (p q : Path) → if_named good p ≡ Ok q → p ≡ q
same_path true p q e = cc
same_path false p q e = absurd cc

-- ---- what is looked through

abbrev IsTarget : Target → Type 0
IsTarget of = Names target_named (target_text of) of × IsFormedTarget of

pub target_is : (text : List ℕ) (of : Target) → target_named text ≡ Ok of → IsTarget of
unfolding target_named context_named
target_is text of e = by_slash (begins_with slash text) refl e where
  by_dataset : (r : Result (List ℕ) CommandFault) → dataset_named text ≡ r → (r >>= λ dataset. Ok (target.Dataset dataset)) ≡ Ok of → IsTarget of
  by_dataset (Err f) m k = absurd cc
  by_dataset (Ok d) m k =
      let same : target.Dataset d ≡ of = cc in
      let back = dataset_back text d m in
      let begins = (argument (dataset_text d) (was_read (dataset_text d) d back).good).begins in
      subst IsTarget same (rw (begins, back) refl, dataset_formed text d m)

  by_name : (b : Bool) → is_context_name text ≡ b → begins_with slash text ≡ false → (if_named b text >>= λ name. Ok (target.Context name)) ≡ Ok of → IsTarget of
  by_name false m n k = absurd cc
  by_name true m n k = let same : target.Context text ≡ of = cc in subst IsTarget same (rw (n, m) refl, tt)

  by_slash : (b : Bool) → begins_with slash text ≡ b
      → (if b then (dataset_named text >>= λ dataset. Ok (target.Dataset dataset)) else (context_named text >>= λ name. Ok (target.Context name))) ≡ Ok of → IsTarget of
  by_slash true m k = by_dataset (dataset_named text) refl k
  by_slash false m k = by_name (is_context_name text) refl m k

-- ---- what a RETURN names

no_end : (octet : ℕ) (text : List ℕ) → Lacks octet text → ends_here octet text ≡ false
no_end octet [] h = refl
no_end octet (x ∷ []) h = ne_eqb x octet h.0
no_end octet (x ∷ y ∷ text) h = no_end octet (y ∷ text) h.1

front_is : (front : List ℕ) → length front == 0 || is_attribute front ≡ true → (front ≡ []) ⊎ IsFormedAttribute front
front_is [] h = inl refl
front_is (x ∷ front) h =
    let some : (length (x ∷ front) == 0) ≡ false = grind (arith, nat_tests) in
    inr (attribute_is (x ∷ front) (subst (λ (b : Bool). b || is_attribute (x ∷ front) ≡ true) some h))

by_front : (front : List ℕ) → (front ≡ []) ⊎ IsFormedAttribute front → length front == 0 || is_attribute front ≡ true
by_front front (inl e) = subst (λ (t : List ℕ). length t == 0 || is_attribute t ≡ true) (sym e) refl
by_front front (inr f) = or_right (length front == 0) (is_attribute front) (by_attribute front f)

abbrev IsReturned : List ℕ → ReturnName → Type 0
IsReturned text n = (text ≡ return_text n) × IsFormedReturn n

pub returned_is : (text : List ℕ) (n : ReturnName) → return_named text ≡ Ok n → IsReturned text n
unfolding return_named attribute_named
returned_is text n e = by_end (ends_with star text) refl e where
  by_good : (good : Bool) (front : List ℕ) → text ≡ front ++ star ∷ [] → length front == 0 || is_attribute front ≡ good → if_named good (name.Beginning front) ≡ Ok n → IsReturned text n
  by_good true front w m f = let same : name.Beginning front ≡ n = cc in subst (IsReturned text) same (w, front_is front m)
  by_good false front w m f = absurd cc

  by_test : (good : Bool) → is_attribute text ≡ good → (if_named good text >>= λ attribute. Ok (name.Named attribute)) ≡ Ok n → IsReturned text n
  by_test true m f = let same : name.Named text ≡ n = cc in subst (IsReturned text) same (refl, attribute_is text m)
  by_test false m f = absurd cc

  by_end : (b : Bool) → ends_with star text ≡ b
      → (if b then (let front = take (length text - 1) text in if_named (length front == 0 || is_attribute front) (name.Beginning front)) else (if_named (is_attribute text) text >>= λ attribute. Ok (name.Named attribute))) ≡ Ok n
      → IsReturned text n
  by_end true m f = by_good _ (take (length text - 1) text) (sym (end_again star text m)) refl f
  by_end false m f = by_test (is_attribute text) refl f

by_returned : (n : ReturnName) → IsFormedReturn n → return_named (return_text n) ≡ Ok n
unfolding return_named attribute_named
by_returned (name.Named a) f =
    let ends : ends_with star a ≡ false = ends_same star a ∙ no_end star a f.no_star in
    rw (ends, by_attribute a f) refl
by_returned (name.Beginning front) f =
    let ends : ends_with star (front ++ star ∷ []) ≡ true = ends_same star (front ++ star ∷ []) ∙ ends_behind star front in
    rw (ends, without_end star front, by_front front f) refl

pub names_law : NamesLaw
unfolding attribute_named context_named path_named dataset_of name_of
names_law = record {
  attribute = λ text a. (
    (λ e. let s = same_name (is_attribute text) text a e in (s.1, subst IsFormedAttribute s.1 (attribute_is text s.0))),
    (λ h. let good : is_attribute text ≡ true = ap is_attribute h.0 ∙ by_attribute a h.1 in rw good (ap Ok h.0)),
  );
  context = λ text c. (
    (λ e. let s = same_name (is_context_name text) text c e in (s.1, subst IsFormedContext s.1 (context_is text s.0))),
    (λ h. let good : is_context_name text ≡ true = ap is_context_name h.0 ∙ by_context c h.1 in rw good (ap Ok h.0)),
  );
  path = λ text p. (
    (λ e.
        let whole : text ≡ p.dataset ++ p.name = sym (take-append-drop (dataset_len text) text) ∙ ap (λ (q : Path). q.dataset ++ q.name) (same_path (is_path text) (record { dataset = dataset_of text; name = name_of text }) p e) in
        (whole, formed_path p (ap path_named (sym whole) ∙ e))),
    (λ h. ap path_named h.0 ∙ path_is_good p.dataset p.name h.1.components h.1.dataset h.1.name h.1.octets),
  );
  returned = λ text n. (returned_is text n, (λ h. ap return_named h.0 ∙ by_returned n h.1));
  dataset = λ d. (formed_dataset d, dataset_is_good d);
  closed = λ d. ((λ e. (dataset_formed d d e, sent_octets d d e)), (λ h. closed_is_good d h.0 h.1));
  sent = λ text d e. let w = was_read text d e in sent_as text d (argument text w.good).begins w.is;
}
