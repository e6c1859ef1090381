-- What is kept in order is a finite map: the lemmas, and the orders of the three kinds of key, octets, paths and numbers.
use Rattle.std.specs.Cmp.{nat_cmp_total}
use Rattle.std.specs.Cmp.Lexicographic.{nat_list_cmp_total}
use Rattle.std.specs.FinMap.{nat_cmp-IsAntisymmetric}
use Rattle.acap_entries.proofs.Formed.{in_form, none_in_form, after_formed}
use Rattle.acap_ordmap.proofs.MapLemmas.{len_kept, from_sorted_none, none_in_order, entries_kept, get_kept, insert_kept, put_in_order, without_in_order, remove_kept}
use Rattle.acap_entries.proofs.StoreLemmas.{path_cmp_total, path_same, octets_same, after_writes-append, after_writes-IsPathByPath}

pub ruleset kept = (in_form, none_in_form, after_formed, entries_kept, len_kept, from_sorted_none, none_in_order, get_kept, insert_kept, put_in_order, remove_kept, without_in_order, nat_list_cmp_total, octets_same, path_cmp_total, path_same, nat_cmp_total, nat_cmp-IsAntisymmetric, after_writes-append, after_writes-IsPathByPath)
