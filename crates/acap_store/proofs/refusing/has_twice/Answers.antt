use Rattle.std.proofs.Common.{◌≡◌, true, false, sym, ap, ◌∙◌, ◌++◌, ◌∷◌, [], take, drop, get_or, subst, ◌+◌}
use Rattle.std.proofs.lemmas.List.{take-append-drop}
use Rattle.acap_commands.specs.EntryOrder.{Orders}
use Rattle.acap_commands.specs.EntryOrder.{has_path}
use Rattle.acap_store.specs.Refusing as rule
use Rattle.acap_store.proofs.TwiceLemmas.{of_rising, once_more, twice_at, taken, not_false, not_true}
use Rattle.acap_store.proofs.refusing.has_twice.Goals as goal

pub returns-then-ascend : goal.returns-then-ascend
returns-then-ascend c = sym (of_rising c.args.entries.now (sym c.ascend.ensures ∙ c.if-ascend.true))

pub returns-then-not-branch : goal.returns-then-not-branch
returns-then-not-branch c =
    let entries = c.args.entries.now in
    let at = c.loop-at.at in
    let next = c.index-others-0.result in
    let there : has_path next.path (take at entries) ≡ true = ap (has_path next.path) (sym c.split_at.ensures.front) ∙ not_false _ (sym c.if-not-branch.true ∙ c.in_ok-add.ensures.new) in
    let is : next ≡ get_or (drop at entries) 0 next = c.index-others-0.is ∙ ap (λ t. get_or t 0 next) c.split_at.ensures.back in
    let whole : (take at entries ++ next ∷ []) ++ drop (at + 1) entries ≡ entries = ap (λ t. t ++ drop (at + 1) entries) (sym (taken entries at next c.loop-at-test.true is)) ∙ take-append-drop (at + 1) entries in
    sym (ap rule.has_twice (sym whole) ∙ twice_at (take at entries) (drop (at + 1) entries) next there)

pub loop-at-preserved : goal.loop-at-preserved
loop-at-preserved c =
    let entries = c.args.entries.now in
    let at = c.loop-at.at in
    let next = c.index-others-0.result in
    let new : has_path next.path (take at entries) ≡ false = ap (has_path next.path) (sym c.split_at.ensures.front) ∙ not_true _ (sym c.if-not-branch.false ∙ c.in_ok-add.ensures.new) in
    let is : next ≡ get_or (drop at entries) 0 next = c.index-others-0.is ∙ ap (λ t. get_or t 0 next) c.split_at.ensures.back in
    let longer : take (at + 1) entries ≡ take at entries ++ next ∷ [] = taken entries at next c.loop-at-test.true is in
    record {
      order = subst (λ t. Orders c.add.new.self t) (sym (longer ∙ ap (λ t. t ++ next ∷ []) (sym c.split_at.ensures.front))) c.in_ok-add.ensures.ok;
      once = ap rule.has_twice longer ∙ once_more (take at entries) next c.loop-at.invariant.once new;
    }
