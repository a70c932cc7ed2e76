use Rattle.words.specs.Bytes.{byte}
use Rattle.blocks.proofs.frame.read_stamp.Goals as goal

pub returns : goal.returns
returns c = λ i. record { instance = record { 0 = c.get_u16.ensures i }; setup = c.read_setup.ensures i; agent = byte c.args.block.now 9 }
