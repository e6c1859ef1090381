-- What is told of a batch, by how much of it has been told.
use Rattle.std.proofs.Common.{◌≡◌, ℕ, ◌+◌, ◌<◌, List, ◌∷◌, ◌++◌, length, drop, get_or, ap, sym, ◌∙◌, arith, suc, subst}
use Rattle.std.proofs.Math.Seq.{drop-cons}
use Rattle.std.proofs.lemmas.List.{get_or-map, get_or_append_left, length-map, length-append}
use Rattle.acap_notices.specs.Batches.{ending_of, notes_of, told_in}
use Rattle.acap_notices.specs.declared.batch.Batch.{Batch}
use Rattle.acap_notices.specs.declared.notice.Notice.{Notice}
use Rattle.acap_notices.specs.declared.told.Told.{Told}
use Rattle.acap_notices.specs.declared.told.Told.TheVariants.{Note}

-- the next notice, and what is told after it
pub note_next : (context : List ℕ) (notices : List Notice) (more : List Told) (at : ℕ) (notice : Notice) → at < length notices → notice ≡ get_or notices at notice → drop at (notes_of context notices ++ more) ≡ Note context notice ∷ drop (at + 1) (notes_of context notices ++ more)
note_next context notices more at notice within is =
    let told : List Told = notes_of context notices in
    let first = get_or_append_left told more (Note context notice) at (omega (arith, within, length-map notices (Note context))) ∙ get_or-map (Note context) notices at notice (Note context notice) within ∙ ap (Note context) (sym is) in
    let step : suc at ≡ at + 1 = omega arith in
    drop-cons (told ++ more) at (Note context notice) (omega (arith, within, length-map notices (Note context), length-append told more))
    ∙ (λ i. first i ∷ drop (step i) (told ++ more))

pub told_next : (batch : Batch) (notices : List Notice) (at : ℕ) (notice : Notice) → notices ≡ batch.notices → at < length notices → notice ≡ get_or notices at notice → drop at (told_in batch) ≡ Note batch.context notice ∷ drop (at + 1) (told_in batch)
told_next batch notices at notice same within is =
    note_next batch.context batch.notices (ending_of batch.context batch.ending) at notice (subst (λ (ns : List Notice). at < length ns) same within) (subst (λ (ns : List Notice). notice ≡ get_or ns at notice) same is)
