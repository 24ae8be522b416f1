-- A tree with columns of it as the subject: what is known once its names were looked at, and why it is refused.
use Rattle.lucid_top.proofs.Common.{◌≡◌, ℕ, List, None, Ok, Err, inl, inr, sym, subst, ◌∙◌, IfOk, ∥∥₁_map, All-contains, PlainTree, IsWellMade, most_source_bytes, all_sites, HasNoFault, scoped_tree, scoped_inputs, Scoped, AreColumns, Refusal, Stop, IsRefusalOf, beside, RefusesNames, RefusesBeside, StandsBeside, HasInputs}
use Rattle.std.proofs.Common.{Result}
use Rattle.lucid_scope.specs.Bindings.{fault_of}
use Rattle.lucid_report.specs.declared.stop.Stop.TheVariants as stop
use Rattle.lucid_top.specs.Judged.{RefusesColumns, AreResolved}
use Rattle.lucid_top.proofs.FewInputs.{few_inputs}

-- the free names of a tree that was resolved
pub free_of : (p : PlainTree) (s : Scoped) → scoped_tree s ≡ p → AreResolved s → HasInputs p (scoped_inputs s)
free_of p s is resolved = subst (λ q. HasInputs q (scoped_inputs s)) is (∥∥₁_map resolved.resolved (λ r. r.inputs_are))

module _ (p : PlainTree) (columns : List (List ℕ)) where
  stands : (q : PlainTree) (free : List (List ℕ)) (s : Scoped) → HasNoFault p → HasInputs p free → AreColumns p columns → q ≡ beside p columns → IsWellMade q
      → scoped_tree s ≡ q → AreResolved s
      → StandsBeside p columns (scoped_tree s) (scoped_inputs s)
  stands q free s none inputs are is well same resolved =
      let whole : scoped_tree s ≡ beside p columns = same ∙ is in
      record {
        no_fault = none;
        free = free;
        are_free = inputs;
        are = are;
        is = whole;
        well_made = subst IsWellMade (sym same) well;
        few = few_inputs p most_source_bytes columns (scoped_inputs s) are (free_of (beside p columns) s whole resolved);
      }

  pub all_stand : (q : PlainTree) (free : List (List ℕ)) (r : Result Scoped Stop) → HasNoFault p → HasInputs p free → AreColumns p columns
      → q ≡ beside p columns → IsWellMade q
      → IfOk r (λ s. scoped_tree s ≡ q) → IfOk r AreResolved → IfOk r (λ s. StandsBeside p columns (scoped_tree s) (scoped_inputs s))
  all_stand q free (Ok s) none inputs are is well same resolved = stands q free s none inputs are is well same resolved
  all_stand q free (Err e) none inputs are is well same resolved = tt

  pub names_refused : (s : Stop) → IsRefusalOf (RefusesNames p) s → IsRefusalOf (RefusesBeside p columns) s
  names_refused (stop.Refused why) h = inl h
  names_refused stop.NoMemory h = tt
  names_refused _ h = absurd h

  pub columns_refused : (free : List (List ℕ)) (s : Stop) → HasNoFault p → HasInputs p free → IsRefusalOf (RefusesColumns p columns) s
      → IsRefusalOf (RefusesBeside p columns) s
  columns_refused free (stop.Refused why) none inputs h = inr (none, (free, inputs), h)
  columns_refused free stop.NoMemory none inputs h = tt
  columns_refused free _ none inputs h = absurd h

  no_fault_told : (q : PlainTree) (why : Refusal) → HasNoFault q → RefusesNames q why → ⊥
  no_fault_told q why none r =
      let none' : fault_of r.least.site ≡ None = All-contains (λ s. fault_of s ≡ None) (all_sites q) r.least.site none r.least.stands in
      let is = r.least.is in absurd (cc (none', is))

  -- the names of the tree with its columns are not refused
  pub memory_alone : (q : PlainTree) (s : Stop) → HasNoFault q → IsRefusalOf (RefusesNames q) s → IsRefusalOf (RefusesBeside p columns) s
  memory_alone q (stop.Refused why) none h = absurd (no_fault_told q why none h)
  memory_alone q stop.NoMemory none h = tt
  memory_alone q _ none h = absurd h
