use Rattle.client_abi.proofs.read.razidkot_client_read.Goals as goal

pub returns : goal.returns
returns c =
    let called = c.read in
    (called.result, (c.number.ensures, called.ensures))
