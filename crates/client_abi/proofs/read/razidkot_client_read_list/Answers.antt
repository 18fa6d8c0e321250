use Rattle.client_abi.proofs.read.razidkot_client_read_list.Goals as goal

pub returns : goal.returns
returns c = rw c.format_for.ensures at c.read_list.ensures
