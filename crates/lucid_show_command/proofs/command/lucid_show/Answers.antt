use Rattle.lucid_show_command.proofs.Common.{Option, Some, map, ap, refl, sym, subst, ◌∙◌, string_bytes}
use Rattle.lucid_ports.specs.Told.{told}
use Rattle.lucid_show_command.specs.declared.words.Asked.{Asked}
use Rattle.lucid_show_command.specs.Words.{MayShow, PlainAsked, asked, plain_asked, plain_steps}
use Rattle.lucid_show_command.specs.Shows.{ShowsAsked, misplaces, shown}
use Rattle.lucid_show_command.proofs.Telling.{refused_shows, run_shows}
use Rattle.lucid_show_command.proofs.command.lucid_show.Goals as goal

pub show_value-requires : goal.show_value-requires
show_value-requires g c = subst MayShow c.in-Ok-Value.field-0-is c.in-Ok-Value.ensures.begins (g.P.Places.world c.args.places.now) c.requires

pub returns-in-Ok-Value : goal.returns-in-Ok-Value
returns-in-Ok-Value g c =
    subst
    (λ (o : Option PlainAsked). ShowsAsked (g.F.Outlook.files c.args.means.now.outlook.now) (g.P.Places.world c.args.places.now) (g.P.Places.world c.show_value.new.places)
    (told g.K.Sink.written g.K.Sink.faults g.K.Sink.late c.args.out.now) (told g.K.Sink.written g.K.Sink.faults g.K.Sink.late c.show_value.new.out)
    (told g.E.Sink.written g.E.Sink.faults g.E.Sink.late c.args.report.now) (told g.E.Sink.written g.E.Sink.faults g.E.Sink.late c.show_value.new.report) c.show_value.result o)
    (sym (c.in-Ok-Value.ensures.asked ∙ ap (λ (a : Asked). Some (plain_asked a)) c.in-Ok-Value.field-0-is)) (shown c.show_value.ensures)

pub returns-in-Ok-Steps : goal.returns-in-Ok-Steps
returns-in-Ok-Steps g c =
    subst
    (λ (o : Option PlainAsked). ShowsAsked (g.F.Outlook.files c.args.means.now.outlook.now) (g.P.Places.world c.args.places.now) (g.P.Places.world c.show_run.new.places)
    (told g.K.Sink.written g.K.Sink.faults g.K.Sink.late c.args.out.now) (told g.K.Sink.written g.K.Sink.faults g.K.Sink.late c.show_run.new.out)
    (told g.E.Sink.written g.E.Sink.faults g.E.Sink.late c.args.report.now) (told g.E.Sink.written g.E.Sink.faults g.E.Sink.late c.show_run.new.report) c.show_run.result o)
    (sym (c.in-Ok-Steps.ensures.asked ∙ ap (λ (a : Asked). Some (plain_asked a)) c.in-Ok-Steps.field-0-is))
    (run_shows (g.F.Outlook.files c.args.means.now.outlook.now) (plain_steps c.in-Ok-Steps.steps) _ _ _ _ _ _ _ c.show_run.ensures)

pub returns-in-Ok-Misplaced : goal.returns-in-Ok-Misplaced
returns-in-Ok-Misplaced g c =
    subst
    (λ (o : Option PlainAsked). ShowsAsked (g.F.Outlook.files c.args.means.now.outlook.now) (g.P.Places.world c.args.places.now) (g.P.Places.world c.args.places.now)
    (told g.K.Sink.written g.K.Sink.faults g.K.Sink.late c.args.out.now) (told g.K.Sink.written g.K.Sink.faults g.K.Sink.late c.args.out.now)
    (told g.E.Sink.written g.E.Sink.faults g.E.Sink.late c.args.report.now) (told g.E.Sink.written g.E.Sink.faults g.E.Sink.late c.tell_line.new.report) c.tell_line.result o)
    (sym (c.in-Ok-Misplaced.ensures.asked ∙ ap (λ (a : Asked). Some (plain_asked a)) c.in-Ok-Misplaced.field-0-is)) (misplaces refl refl c.tell_line.ensures)

pub returns-in-Err : goal.returns-in-Err
returns-in-Err g c =
    refused_shows (g.F.Outlook.files c.args.means.now.outlook.now) (g.P.Places.world c.args.places.now) (told g.K.Sink.written g.K.Sink.faults g.K.Sink.late c.args.out.now)
    (told g.E.Sink.written g.E.Sink.faults g.E.Sink.late c.args.report.now) (told g.E.Sink.written g.E.Sink.faults g.E.Sink.late c.tell_refused.new.report) c.tell_refused.result
    (asked (map (string_bytes {Z = Rattle.std.specs.Global.Global}) c.args.words.now)) c.in-Err.refusal c.in-Err.ensures.asked c.tell_refused.ensures
