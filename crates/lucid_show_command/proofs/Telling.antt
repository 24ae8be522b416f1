-- How words that weren't read are told.
use Rattle.lucid_show_command.proofs.Common.{◌≡◌, Option, None, Some, refl, sym, subst}
use Rattle.lucid_explain_report.specs.Files.{Files}
use Rattle.lucid_ports.specs.World.{World}
use Rattle.lucid_words.specs.declared.WordsRefusal.{WordsRefusal}
use Rattle.lucid_words.specs.declared.WordsRefusal.TheVariants.{Usage, NoMemory}
use Rattle.lucid_ports.specs.Told.{Told}
use Rattle.lucid_report.specs.declared.status.Status.{Status}
use Rattle.lucid_show_command.specs.Running.{MayLack, ShowsRun, done, lacks}
use Rattle.lucid_show_command.specs.Words.{PlainAsked, PlainSteps, steps}
use Rattle.lucid_show_command.specs.Shows.{ShowsAsked, TellsRefused, no_memory, ran, refused}

pub refused_shows : (files : Files) (before : World) (out report_before report_after : Told) (s : Status) (asked : Option PlainAsked) (e : WordsRefusal)
    → (e ≡ Usage → asked ≡ None) → TellsRefused e s report_before report_after → ShowsAsked files before before out out report_before report_after s asked
refused_shows files before out report_before report_after s asked Usage none tells =
    subst (ShowsAsked files before before out out report_before report_after s) (sym (none refl)) (refused refl refl tells)
refused_shows files before out report_before report_after s asked NoMemory none tells = no_memory refl refl tells

-- so is a run
pub run_shows : (files : Files) (wanted : PlainSteps) (before after : World) (out_before out_after report_before report_after : Told) (s : Status)
    → MayLack (ShowsRun files wanted) before after out_before out_after report_before report_after s
    → ShowsAsked files before after out_before out_after report_before report_after s (Some (steps wanted))
run_shows files wanted before after out_before out_after report_before report_after s (done r) = ran r
run_shows files wanted before after out_before out_after report_before report_after s (lacks unread silent tells) = no_memory unread silent tells
