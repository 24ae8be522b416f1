-- What comes of a certificate that is made in memory.
use Rattle.lucid_show_command.proofs.Common.{◌≡◌, ℕ, List, [], Some, Ok, Err, inl, inr, sym, subst, PlainWords}
use Rattle.std.specs.Prelude.{Result, IfOk}
use Rattle.std.specs.declared.alloc.AllocError.{AllocError}
use Rattle.lucid_tree.specs.Tree.{PlainTree}
use Rattle.lucid_ports.specs.World.{World}
use Rattle.lucid_session.specs.Runs.{PolicyView}
use Rattle.lucid_ports.specs.Told.{Told}
use Rattle.lucid_report.specs.Status.{Outcome}
use Rattle.lucid_report.specs.declared.stop.Done.TheVariants as done
use Rattle.lucid_report.specs.declared.stop.Stop.{Stop}
use Rattle.lucid_report.specs.declared.stop.Stop.TheVariants as stop
use Rattle.lucid_top.specs.Call.{call_under}
use Rattle.lucid_top.specs.Coming.{Does}
use Rattle.lucid_report.specs.Telling.{Tells}
use Rattle.lucid_report.specs.declared.status.Status.{Status}
use Rattle.lucid_report.specs.declared.status.Status.TheVariants as status
use Rattle.lucid_top.specs.Judged.{HasInputs}
use Rattle.lucid_top.specs.Places.{IsAccepted}
use Rattle.lucid_top.specs.Writing.{WritesOnly}
use Rattle.lucid_show_command.specs.declared.showing.Drawn.{Drawn}
use Rattle.lucid_show_command.specs.declared.showing.Drawn.TheVariants as drawn
use Rattle.lucid_show_command.specs.Running.{TellsLine, in_memory}
use Rattle.lucid_show_command.specs.Shows.{Draws, IsDrawn, MakesInMemory, Shown, ShowsMade, TellsDrawn, draws, no_memory, no_name}
use Rattle.lucid_show_command.specs.Words.{PlainWanted}

-- what is written of one kind is written of a wider one
pub writes_wider : (P Q : List ℕ → Type 0) → ((text : List ℕ) → P text → Q text) → (before after : Told) (o : Outcome) → WritesOnly P before after o
    → WritesOnly Q before after o
writes_wider P Q wider before after (Ok done.Written) w = (w.0, wider w.0 w.1, w.2)
writes_wider P Q wider before after (Ok (done.Ran summary stats)) w = absurd w
writes_wider P Q wider before after (Err stop.WriteFault) w = ((w.0.0, wider w.0.0 w.0.1, w.0.2), w.1)
writes_wider P Q wider before after (Err stop.NoMemory) w = elim w [ inl none ↦ inl none | inr some ↦ inr (some.0, wider some.0 some.1, some.2) ]
writes_wider P Q wider before after (Err _) w = absurd w

module _ (words : PlainWords) (before after : World) (made_before made_after : Told) (bytes : List ℕ) (faults late : ℕ) (o : Outcome) where
  -- the outputs in memory are these
  pub makes : made_before ≡ in_memory [] 0 0 → made_after ≡ in_memory bytes faults late
      → ((policy : PolicyView) → Does (call_under policy (Some words) before after made_before made_after) o) → MakesInMemory words before after bytes o
  makes empty full does = record {
    faults = faults;
    late = late;
    does = λ policy. subst (λ (t : Told). Does (call_under policy (Some words) before after (in_memory [] 0 0) t) o) full
        (subst (λ (t : Told). Does (call_under policy (Some words) before after t made_after) o) empty (does policy));
  }

module _ (wanted : PlainWanted) (before after : World) (out_before out_after report_before report_after : Told) (s : Status) (bytes : List ℕ) where
  -- no certificate is made
  pub shown_stopped : (why : Stop) → MakesInMemory wanted.words before after bytes (Err why) → out_after.bytes ≡ out_before.bytes
      → Tells (Err why) s report_before report_after → Shown wanted before after out_before out_after report_before report_after s
  shown_stopped why made silent tells = record {
    made = Err why;
    certificate = bytes;
    makes = made;
    stopped = λ other is. (silent, subst (λ (o : Outcome). Tells o s report_before report_after) is tells);
    shows = λ d is. absurd (cc is);
  }

  -- one is
  pub shown_made : MakesInMemory wanted.words before after bytes (Ok done.Written)
      → ShowsMade wanted before bytes out_before out_after report_before report_after s
      → Shown wanted before after out_before out_after report_before report_after s
  shown_made made shows = record {
    made = Ok done.Written;
    certificate = bytes;
    makes = made;
    stopped = λ why is. absurd (cc is);
    shows = λ d is. shows;
  }

module _ (wanted : PlainWanted) (before : World) (certificate : List ℕ) (e : PlainTree) (inputs : List (List ℕ))
    (accepted : IsAccepted wanted.words.source before e) (has : HasInputs e inputs) (out_before out_after report_before report_after : Told) (s : Status) where
  -- what is drawn of it is told
  pub shows_drawn : (d : Result Drawn AllocError) → IfOk d (IsDrawn e inputs certificate wanted)
      → TellsDrawn d out_before out_after report_before report_after s → ShowsMade wanted before certificate out_before out_after report_before report_after s
  shows_drawn (Ok (drawn.Text text)) is tells =
      draws e inputs accepted has is.0 tells.0
      (writes_wider (λ written. written ≡ text.items) (Draws e inputs certificate wanted)
      (λ written same. subst (Draws e inputs certificate wanted) (sym same) is.1) out_before out_after tells.0 tells.1) tells.2
  shows_drawn (Ok (drawn.NoName line)) is tells =
      no_name e inputs accepted has is.0 is.1 tells.0 (subst (λ (l : List ℕ). TellsLine l status.Refused s report_before report_after) is.2 tells.1)
  shows_drawn (Err error) is tells = no_memory tells.0 tells.1
