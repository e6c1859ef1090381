-- Equality of the parts of commands is exact.
use Rattle.std.proofs.Common.{◌≡◌, true, true≢false, List, refl, sym, ap}
use Rattle.std.specs.Bool.{Decides}
use Rattle.std.specs.Cmp.{booleans_Decides, unsigned_Decides, signed_Decides}
use Rattle.std.specs.Cmp.Lexicographic.{pointwise, pointwise_decides, bytes_decides}
use Rattle.acap_order.specs.declared.comparator.Collation.{Collation}
use Rattle.acap_order.specs.declared.comparator.Collation.TheVariants as collation
use Rattle.acap_order.specs.declared.comparator.Comparator.{Comparator}
use Rattle.acap_order.specs.declared.comparator.Direction.{Direction}
use Rattle.acap_order.specs.declared.comparator.Direction.TheVariants as direction
use Rattle.acap_order.specs.contracts.comparator.CollationPartialEq.TheImpl as collation_eq
use Rattle.acap_order.specs.contracts.comparator.CollationEq.TheImpl.Laws as collation_laws
use Rattle.acap_order.specs.contracts.comparator.ComparatorPartialEq.TheImpl as comparator_eq
use Rattle.acap_order.specs.contracts.comparator.ComparatorEq.TheImpl.Laws as comparator_laws
use Rattle.acap_order.specs.contracts.comparator.DirectionPartialEq.TheImpl as direction_eq
use Rattle.acap_order.specs.contracts.comparator.DirectionEq.TheImpl.Laws as direction_laws
use Rattle.acap_entries.proofs.Equalities.{pair_exact, cell_exact}
use Rattle.acap_commands.specs.declared.store.Given.{Given}
use Rattle.acap_commands.specs.declared.store.Given.TheVariants as given
use Rattle.acap_commands.specs.declared.search_modifiers.Limit.{Limit}
use Rattle.acap_commands.specs.declared.search_modifiers.MakeContext.{MakeContext}
use Rattle.acap_commands.specs.declared.returns.Metadata.{Metadata}
use Rattle.acap_commands.specs.declared.returns.Metadata.TheVariants as metadata
use Rattle.acap_commands.specs.declared.test.Relation.{Relation}
use Rattle.acap_commands.specs.declared.test.Relation.TheVariants as relation
use Rattle.acap_commands.specs.declared.returns.ReturnItem.{ReturnItem}
use Rattle.acap_commands.specs.declared.returns.ReturnName.{ReturnName}
use Rattle.acap_commands.specs.declared.returns.ReturnName.TheVariants as return_name
use Rattle.acap_commands.specs.declared.search_modifiers.SearchModifiers.{SearchModifiers}
use Rattle.acap_commands.specs.declared.search_modifiers.SortItem.{SortItem}
use Rattle.acap_commands.specs.declared.store.StoreEntry.{StoreEntry}
use Rattle.acap_commands.specs.declared.store.StoreItem.{StoreItem}
use Rattle.acap_commands.specs.declared.store.StoreMetadata.{StoreMetadata}
use Rattle.acap_commands.specs.declared.store.StoreMetadata.TheVariants as store_metadata
use Rattle.acap_commands.specs.declared.store.StoreModifiers.{StoreModifiers}
use Rattle.acap_commands.specs.declared.target.Target.{Target}
use Rattle.acap_commands.specs.declared.target.Target.TheVariants as target
use Rattle.acap_commands.specs.declared.test.Test.{Test}
use Rattle.acap_commands.specs.declared.test.Test.TheVariants as test
use Rattle.acap_commands.specs.contracts.store.GivenPartialEq.TheImpl as given_eq
use Rattle.acap_commands.specs.contracts.store.GivenEq.TheImpl.Laws as given_laws
use Rattle.acap_commands.specs.contracts.search_modifiers.LimitPartialEq.TheImpl as limit_eq
use Rattle.acap_commands.specs.contracts.search_modifiers.LimitEq.TheImpl.Laws as limit_laws
use Rattle.acap_commands.specs.contracts.search_modifiers.MakeContextPartialEq.TheImpl as make_context_eq
use Rattle.acap_commands.specs.contracts.search_modifiers.MakeContextEq.TheImpl.Laws as make_context_laws
use Rattle.acap_commands.specs.contracts.returns.MetadataPartialEq.TheImpl as metadata_eq
use Rattle.acap_commands.specs.contracts.returns.MetadataEq.TheImpl.Laws as metadata_laws
use Rattle.acap_commands.specs.contracts.test.RelationPartialEq.TheImpl as relation_eq
use Rattle.acap_commands.specs.contracts.test.RelationEq.TheImpl.Laws as relation_laws
use Rattle.acap_commands.specs.contracts.returns.ReturnItemPartialEq.TheImpl as return_item_eq
use Rattle.acap_commands.specs.contracts.returns.ReturnItemEq.TheImpl.Laws as return_item_laws
use Rattle.acap_commands.specs.contracts.returns.ReturnNamePartialEq.TheImpl as return_name_eq
use Rattle.acap_commands.specs.contracts.returns.ReturnNameEq.TheImpl.Laws as return_name_laws
use Rattle.acap_commands.specs.contracts.search_modifiers.SearchModifiersPartialEq.TheImpl as search_modifiers_eq
use Rattle.acap_commands.specs.contracts.search_modifiers.SearchModifiersEq.TheImpl.Laws as search_modifiers_laws
use Rattle.acap_commands.specs.contracts.search_modifiers.SortItemPartialEq.TheImpl as sort_item_eq
use Rattle.acap_commands.specs.contracts.search_modifiers.SortItemEq.TheImpl.Laws as sort_item_laws
use Rattle.acap_commands.specs.contracts.store.StoreEntryPartialEq.TheImpl as store_entry_eq
use Rattle.acap_commands.specs.contracts.store.StoreEntryEq.TheImpl.Laws as store_entry_laws
use Rattle.acap_commands.specs.contracts.store.StoreItemPartialEq.TheImpl as store_item_eq
use Rattle.acap_commands.specs.contracts.store.StoreItemEq.TheImpl.Laws as store_item_laws
use Rattle.acap_commands.specs.contracts.store.StoreMetadataPartialEq.TheImpl as store_metadata_eq
use Rattle.acap_commands.specs.contracts.store.StoreMetadataEq.TheImpl.Laws as store_metadata_laws
use Rattle.acap_commands.specs.contracts.store.StoreModifiersPartialEq.TheImpl as store_modifiers_eq
use Rattle.acap_commands.specs.contracts.store.StoreModifiersEq.TheImpl.Laws as store_modifiers_laws
use Rattle.acap_commands.specs.contracts.target.TargetPartialEq.TheImpl as target_eq
use Rattle.acap_commands.specs.contracts.target.TargetEq.TheImpl.Laws as target_laws
use Rattle.acap_commands.specs.contracts.test.TestPartialEq.TheImpl as test_eq
use Rattle.acap_commands.specs.contracts.test.TestEq.TheImpl.Laws as test_laws
use Rattle.acap_commands.proofs.Exact.{exact_of, option_exact}
use Rattle.acap_commands.proofs.ReplyEquality.{path_exact}

collation_same : (a b : Collation) → collation_eq.ghosts.eq a b ≡ true → a ≡ b
collation_same collation.Octet collation.Octet e = refl
collation_same collation.AsciiCasemap collation.AsciiCasemap e = refl
collation_same collation.AsciiNumeric collation.AsciiNumeric e = refl
collation_same a b e = absurd (true≢false (sym e))

pub collation_exact : (a b : Collation) → Decides (collation_eq.ghosts.eq a b) (a ≡ b)
collation_exact = exact_of collation_laws.laws-law collation_same

direction_same : (a b : Direction) → direction_eq.ghosts.eq a b ≡ true → a ≡ b
direction_same direction.Ascending direction.Ascending e = refl
direction_same direction.Descending direction.Descending e = refl
direction_same a b e = absurd (true≢false (sym e))

pub direction_exact : (a b : Direction) → Decides (direction_eq.ghosts.eq a b) (a ≡ b)
direction_exact = exact_of direction_laws.laws-law direction_same

comparator_same : (a b : Comparator) → comparator_eq.ghosts.eq a b ≡ true → a ≡ b
comparator_same a b e =
    let h = (pair_exact collation_exact direction_exact (a.collation, a.direction) (b.collation, b.direction)).0 e in
    λ i. record { collation = (h i).0; direction = (h i).1 }

pub comparator_exact : (a b : Comparator) → Decides (comparator_eq.ghosts.eq a b) (a ≡ b)
comparator_exact = exact_of comparator_laws.laws-law comparator_same

relation_same : (a b : Relation) → relation_eq.ghosts.eq a b ≡ true → a ≡ b
relation_same relation.Equal relation.Equal e = refl
relation_same relation.AtLeast relation.AtLeast e = refl
relation_same relation.Greater relation.Greater e = refl
relation_same relation.Begins relation.Begins e = refl
relation_same relation.Contains relation.Contains e = refl
relation_same a b e = absurd (true≢false (sym e))

pub relation_exact : (a b : Relation) → Decides (relation_eq.ghosts.eq a b) (a ≡ b)
relation_exact = exact_of relation_laws.laws-law relation_same

test_same : (a b : Test) → test_eq.ghosts.eq a b ≡ true → a ≡ b
test_same test.All test.All e = refl
test_same (test.IsNil p q) (test.IsNil u v) e =
    let h = (pair_exact bytes_decides comparator_exact (p, q) (u, v)).0 e in
    λ i. test.IsNil (h i).0 (h i).1
test_same (test.Meets p q r s) (test.Meets u v w x) e =
    let h = (pair_exact relation_exact (pair_exact bytes_decides (pair_exact comparator_exact bytes_decides)) (p, (q, (r, s))) (u, (v, (w, x)))).0 e in
    λ i. test.Meets (h i).0 (h i).1.0 (h i).1.1.0 (h i).1.1.1
test_same (test.Range p q r) (test.Range u v w) e =
    let h = (pair_exact unsigned_Decides (pair_exact unsigned_Decides signed_Decides) (p, (q, r)) (u, (v, w))).0 e in
    λ i. test.Range (h i).0 (h i).1.0 (h i).1.1
test_same a b e = absurd (true≢false (sym e))

pub test_exact : (a b : Test) → Decides (test_eq.ghosts.eq a b) (a ≡ b)
test_exact = exact_of test_laws.laws-law test_same

store_metadata_same : (a b : StoreMetadata) → store_metadata_eq.ghosts.eq a b ≡ true → a ≡ b
store_metadata_same store_metadata.Value store_metadata.Value e = refl
store_metadata_same store_metadata.Acl store_metadata.Acl e = refl
store_metadata_same a b e = absurd (true≢false (sym e))

pub store_metadata_exact : (a b : StoreMetadata) → Decides (store_metadata_eq.ghosts.eq a b) (a ≡ b)
store_metadata_exact = exact_of store_metadata_laws.laws-law store_metadata_same

given_same : (a b : Given) → given_eq.ghosts.eq a b ≡ true → a ≡ b
given_same (given.Put x) (given.Put y) e = ap given.Put ((cell_exact x y).0 e)
given_same given.Default given.Default e = refl
given_same a b e = absurd (true≢false (sym e))

pub given_exact : (a b : Given) → Decides (given_eq.ghosts.eq a b) (a ≡ b)
given_exact = exact_of given_laws.laws-law given_same

store_item_same : (a b : StoreItem) → store_item_eq.ghosts.eq a b ≡ true → a ≡ b
store_item_same a b e =
    let h = (pair_exact bytes_decides (pair_exact store_metadata_exact given_exact) (a.attribute, (a.metadata, a.given)) (b.attribute, (b.metadata, b.given))).0 e in
    λ i. record { attribute = (h i).0; metadata = (h i).1.0; given = (h i).1.1 }

pub store_item_exact : (a b : StoreItem) → Decides (store_item_eq.ghosts.eq a b) (a ≡ b)
store_item_exact = exact_of store_item_laws.laws-law store_item_same

store_modifiers_same : (a b : StoreModifiers) → store_modifiers_eq.ghosts.eq a b ≡ true → a ≡ b
store_modifiers_same a b e =
    let h = (pair_exact booleans_Decides (option_exact signed_Decides) (a.no_create, a.unchanged_since) (b.no_create, b.unchanged_since)).0 e in
    λ i. record { no_create = (h i).0; unchanged_since = (h i).1 }

pub store_modifiers_exact : (a b : StoreModifiers) → Decides (store_modifiers_eq.ghosts.eq a b) (a ≡ b)
store_modifiers_exact = exact_of store_modifiers_laws.laws-law store_modifiers_same

store_entry_same : (a b : StoreEntry) → store_entry_eq.ghosts.eq a b ≡ true → a ≡ b
store_entry_same a b e =
    let h = (pair_exact path_exact (pair_exact store_modifiers_exact (pointwise_decides store_item_exact)) (a.path, (a.modifiers, a.items)) (b.path, (b.modifiers, b.items))).0 e in
    λ i. record { path = (h i).0; modifiers = (h i).1.0; items = (h i).1.1 }

pub store_entry_exact : (a b : StoreEntry) → Decides (store_entry_eq.ghosts.eq a b) (a ≡ b)
store_entry_exact = exact_of store_entry_laws.laws-law store_entry_same

pub store_entries_exact : (a b : List StoreEntry) → Decides (pointwise store_entry_eq.ghosts.eq a b) (a ≡ b)
store_entries_exact = pointwise_decides store_entry_exact

target_same : (a b : Target) → target_eq.ghosts.eq a b ≡ true → a ≡ b
target_same (target.Dataset x) (target.Dataset y) e = ap target.Dataset ((bytes_decides x y).0 e)
target_same (target.Context x) (target.Context y) e = ap target.Context ((bytes_decides x y).0 e)
target_same a b e = absurd (true≢false (sym e))

pub target_exact : (a b : Target) → Decides (target_eq.ghosts.eq a b) (a ≡ b)
target_exact = exact_of target_laws.laws-law target_same

limit_same : (a b : Limit) → limit_eq.ghosts.eq a b ≡ true → a ≡ b
limit_same a b e =
    let h = (pair_exact unsigned_Decides unsigned_Decides (a.over, a.most) (b.over, b.most)).0 e in
    λ i. record { over = (h i).0; most = (h i).1 }

pub limit_exact : (a b : Limit) → Decides (limit_eq.ghosts.eq a b) (a ≡ b)
limit_exact = exact_of limit_laws.laws-law limit_same

make_context_same : (a b : MakeContext) → make_context_eq.ghosts.eq a b ≡ true → a ≡ b
make_context_same a b e =
    let h = (pair_exact booleans_Decides (pair_exact booleans_Decides bytes_decides) (a.enumerate, (a.notify, a.name)) (b.enumerate, (b.notify, b.name))).0 e in
    λ i. record { enumerate = (h i).0; notify = (h i).1.0; name = (h i).1.1 }

pub make_context_exact : (a b : MakeContext) → Decides (make_context_eq.ghosts.eq a b) (a ≡ b)
make_context_exact = exact_of make_context_laws.laws-law make_context_same

metadata_same : (a b : Metadata) → metadata_eq.ghosts.eq a b ≡ true → a ≡ b
metadata_same metadata.Acl metadata.Acl e = refl
metadata_same metadata.Attribute metadata.Attribute e = refl
metadata_same metadata.MyRights metadata.MyRights e = refl
metadata_same metadata.Size metadata.Size e = refl
metadata_same metadata.Value metadata.Value e = refl
metadata_same a b e = absurd (true≢false (sym e))

pub metadata_exact : (a b : Metadata) → Decides (metadata_eq.ghosts.eq a b) (a ≡ b)
metadata_exact = exact_of metadata_laws.laws-law metadata_same

return_name_same : (a b : ReturnName) → return_name_eq.ghosts.eq a b ≡ true → a ≡ b
return_name_same (return_name.Named x) (return_name.Named y) e = ap return_name.Named ((bytes_decides x y).0 e)
return_name_same (return_name.Beginning x) (return_name.Beginning y) e = ap return_name.Beginning ((bytes_decides x y).0 e)
return_name_same a b e = absurd (true≢false (sym e))

pub return_name_exact : (a b : ReturnName) → Decides (return_name_eq.ghosts.eq a b) (a ≡ b)
return_name_exact = exact_of return_name_laws.laws-law return_name_same

return_item_same : (a b : ReturnItem) → return_item_eq.ghosts.eq a b ≡ true → a ≡ b
return_item_same a b e =
    let h = (pair_exact return_name_exact (pointwise_decides metadata_exact) (a.name, a.metadata) (b.name, b.metadata)).0 e in
    λ i. record { name = (h i).0; metadata = (h i).1 }

pub return_item_exact : (a b : ReturnItem) → Decides (return_item_eq.ghosts.eq a b) (a ≡ b)
return_item_exact = exact_of return_item_laws.laws-law return_item_same

sort_item_same : (a b : SortItem) → sort_item_eq.ghosts.eq a b ≡ true → a ≡ b
sort_item_same a b e =
    let h = (pair_exact bytes_decides comparator_exact (a.attribute, a.comparator) (b.attribute, b.comparator)).0 e in
    λ i. record { attribute = (h i).0; comparator = (h i).1 }

pub sort_item_exact : (a b : SortItem) → Decides (sort_item_eq.ghosts.eq a b) (a ≡ b)
sort_item_exact = exact_of sort_item_laws.laws-law sort_item_same

search_modifiers_same : (a b : SearchModifiers) → search_modifiers_eq.ghosts.eq a b ≡ true → a ≡ b
search_modifiers_same a b e =
    let h = (pair_exact (option_exact unsigned_Decides) (pair_exact (option_exact unsigned_Decides) (pair_exact (option_exact limit_exact) (pair_exact (option_exact make_context_exact) (pair_exact booleans_Decides (pair_exact (option_exact (pointwise_decides return_item_exact)) (option_exact (pointwise_decides sort_item_exact))))))) (a.depth, (a.hard_limit, (a.limit, (a.make_context, (a.no_inherit, (a.returns, a.sort)))))) (b.depth, (b.hard_limit, (b.limit, (b.make_context, (b.no_inherit, (b.returns, b.sort))))))).0 e in
    λ i. record { depth = (h i).0; hard_limit = (h i).1.0; limit = (h i).1.1.0; make_context = (h i).1.1.1.0; no_inherit = (h i).1.1.1.1.0; returns = (h i).1.1.1.1.1.0; sort = (h i).1.1.1.1.1.1 }

pub search_modifiers_exact : (a b : SearchModifiers) → Decides (search_modifiers_eq.ghosts.eq a b) (a ≡ b)
search_modifiers_exact = exact_of search_modifiers_laws.laws-law search_modifiers_same
