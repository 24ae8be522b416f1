-- A run is as good over places that tell the same of its inputs.
use Rattle.lucid_top.proofs.Common.{◌≡◌, ℕ, List, Option, Some, None, Ok, Err, sym, subst, ◌∙◌, IsSomeAnd, IfOk, IfSome, slice_get, IsOverlong, World, Rises, Summary, RunFault, all_bytes, Elements, PlainWords, Subject, Told, HasElements, IsDone, IsTooDeep, OnTooLarge, Ran, Figures, Outcome, Program, program_subject, program_counted, viewed, most_input_bytes, run_result, RanSo, IfErr}
use Rattle.std.proofs.Common.{Result}
use Rattle.lucid_ports.specs.declared.run.RunFault.TheVariants as fault
use Rattle.lucid_session.specs.Runs.{PolicyView, Written, ForSomeAdded, ConsultsOverlong, OnTooDeep, IsUndisturbed}
use Rattle.lucid_session.specs.Figures.{Counted, OnClearings}
use Rattle.lucid_top.specs.Runs.{under}

-- what is said of the input that is too large, of the time that is too deep and of clearings, weakened
large_weaker : (result : Result Summary RunFault) (P Q : ℕ → Type 0) → ((k : ℕ) → P k → Q k) → IfErr result (λ e. OnTooLarge e P)
    → IfErr result (λ e. OnTooLarge e Q)
large_weaker (Err (fault.TooLarge k)) P Q h x = h k x
large_weaker _ P Q h x = tt

deep_weaker : (result : Result Summary RunFault) (P Q : ℕ → Type 0) → ((k : ℕ) → P k → Q k) → IfErr result (λ e. OnTooDeep e P)
    → IfErr result (λ e. OnTooDeep e Q)
deep_weaker (Err (fault.TooDeep t l c)) P Q h x = h t x
deep_weaker _ P Q h x = tt

clearings_weaker : (result : Result Summary RunFault) (P Q : ℕ → ℕ → Type 0) → ((t c : ℕ) → P t c → Q t c) → OnClearings result P → OnClearings result Q
clearings_weaker (Ok s) P Q h x = h _ _ x
clearings_weaker (Err (fault.TooDeep t l c)) P Q h x = h _ _ x
clearings_weaker _ P Q h x = tt

ok_weaker : (result : Result Summary RunFault) (P Q : Summary → Type 0) → ((s : Summary) → P s → Q s) → IfOk result P → IfOk result Q
ok_weaker (Ok s) P Q h x = h s x
ok_weaker (Err e) P Q h x = tt

-- two pairs of places that tell the same of the inputs with these places; where faults rise over the first, they do over the second
pub record TellAlike (qs : List ℕ) (u v u' v' : World) : Type 0 where
  pub before : (k q : ℕ) → slice_get qs k ≡ Some q → (u'.place q).contents ≡ (u.place q).contents
  pub after : (k q : ℕ) → slice_get qs k ≡ Some q → (v'.place q).contents ≡ (v.place q).contents
  pub faults : Rises u.faults v.faults → Rises u'.faults v'.faults

module _ (policy : PolicyView) (w : PlainWords) (free : List (List ℕ)) (qs : List ℕ) (u v u' v' : World) (o p : Told) (a : TellAlike qs u v u' v') where
  added_too : (P : ℕ → Type 0) → ForSomeAdded (under policy (viewed w free qs u v o p)) P → ForSomeAdded (under policy (viewed w free qs u' v' o p)) P
  added_too P x = record { added = x.added; none = x.none; holds = x.holds }

  overlong_too : (S : Subject) (b : Elements) (whole k : ℕ) → ConsultsOverlong S b (under policy (viewed w free qs u v o p)) whole k
      → ConsultsOverlong S b (under policy (viewed w free qs u' v' o p)) whole k
  overlong_too S b whole k x = record {
    name = x.name;
    place = x.place;
    is = x.is;
    index = x.index;
    consulted = added_too _ x.consulted;
    overlong = subst (λ c. IfSome c (λ bytes. IsOverlong (all_bytes bytes) x.index most_input_bytes)) (sym (a.before k x.place x.is.1)) x.overlong;
  }

  written_too : (S : Subject) (b : Elements) → Written S b (under policy (viewed w free qs u v o p)) → Written S b (under policy (viewed w free qs u' v' o p))
  written_too S b x = record { whole = x.whole; within = x.within; bytes = x.bytes; output = x.output; front = x.front; begun = x.begun; written = x.written }

  quiet_back : (S : Subject) (b : Elements) (whole : ℕ) → IsUndisturbed S b (under policy (viewed w free qs u' v' o p)) whole
      → IsUndisturbed S b (under policy (viewed w free qs u v o p)) whole
  quiet_back S b whole quiet = record {
    no_read_failed = λ rises. quiet.no_read_failed (a.faults rises);
    no_write_failed = quiet.no_write_failed;
    none_overlong = λ k long. quiet.none_overlong k (overlong_too S b whole k long);
  }

  ran_too : (S : Subject) (b : Elements) (result : Result Summary RunFault) → Ran S b (under policy (viewed w free qs u v o p)) result
      → Ran S b (under policy (viewed w free qs u' v' o p)) result
  unfolding written_too
  ran_too S b result x = record {
    out = written_too S b x.out;
    cut_off = x.cut_off;
    done = ok_weaker result (IsDone S b (under policy (viewed w free qs u v o p)) x.out) (IsDone S b (under policy (viewed w free qs u' v' o p)) (written_too S b x.out))
        (λ s h. record { lines = h.lines; ends = h.ends }) x.done;
    deep = deep_weaker result (IsTooDeep S b (under policy (viewed w free qs u v o p)) x.out) (IsTooDeep S b (under policy (viewed w free qs u' v' o p)) (written_too S b x.out))
        (λ t h. record { lines = h.lines; within = h.within; undefined = h.undefined }) x.deep;
    exact = x.exact;
    stops = λ early defined quiet. x.stops early defined (quiet_back S b x.out.whole quiet);
    complete = λ enough quiet. x.complete enough (quiet_back S b x.out.whole quiet);
    consumed = record {
      added = x.consumed.added;
      none = x.consumed.none;
      holds = λ d le k n q is old new before after. x.consumed.holds d le k n q is old new (sym (a.before k q is.1) ∙ before) (sym (a.after k q is.1) ∙ after);
    };
    within = λ k n q is old new before after. x.within k n q is old new (sym (a.before k q is.1) ∙ before) (sym (a.after k q is.1) ∙ after);
    too_large = large_weaker result (ConsultsOverlong S b (under policy (viewed w free qs u v o p)) x.out.whole)
        (ConsultsOverlong S b (under policy (viewed w free qs u' v' o p)) x.out.whole)
        (λ k long. overlong_too S b x.out.whole k long) x.too_large;
  }

  figures_too : {K E : Type 0} (C : Counted K E) (b : Elements) (result : Result Summary RunFault) → Figures C b (under policy (viewed w free qs u v o p)) result
      → Figures C b (under policy (viewed w free qs u' v' o p)) result
  figures_too C b result x = record {
    held = x.held;
    deep = x.deep;
    cleared = clearings_weaker result _ _ (λ t c h some. added_too _ (h some)) x.cleared;
  }

  elements_back : (b : Elements) → HasElements (under policy (viewed w free qs u' v' o p)) b → HasElements (under policy (viewed w free qs u v o p)) b
  elements_back b has k n q is = let x = has k n q is in (x.0, sym (a.before k q is.1) ∙ x.1, x.2)

  some_ran : (prog : Program) (b : Elements) (x : Option (Result Summary RunFault))
      → IsSomeAnd x (λ y. Ran (program_subject prog) b (under policy (viewed w free qs u v o p)) y × Figures (program_counted prog) b (under policy (viewed w free qs u v o p)) y)
      → IsSomeAnd x (λ y. Ran (program_subject prog) b (under policy (viewed w free qs u' v' o p)) y × Figures (program_counted prog) b (under policy (viewed w free qs u' v' o p)) y)
  some_ran prog b None h = absurd h
  some_ran prog b (Some y) h = (ran_too (program_subject prog) b y h.0, figures_too (program_counted prog) b y h.1)

  pub ran_alike : (prog : Program) (out : Outcome) → RanSo prog (under policy (viewed w free qs u v o p)) out → RanSo prog (under policy (viewed w free qs u' v' o p)) out
  ran_alike prog out h b has = some_ran prog b (run_result out) (h b (elements_back b has))
