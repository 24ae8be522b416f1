use Rattle.lucid_cert.proofs.CheckCommon.{stream_at}
use Rattle.lucid_cert.proofs.Drawing.{stream_there}
use Rattle.lucid_cert.proofs.compared.is_element.Goals as goal

pub element-requires-clause-reached : goal.element-requires-clause-reached
element-requires-clause-reached g c =
    (c.requires.askable c.args.stream (stream_at c.args.inputs.now c.args.stream) (stream_there c.args.inputs.now c.args.stream c.requires.stream)).0

pub element-requires-clause-fits : goal.element-requires-clause-fits
element-requires-clause-fits g c =
    (c.requires.askable c.args.stream (stream_at c.args.inputs.now c.args.stream) (stream_there c.args.inputs.now c.args.stream c.requires.stream)).1
