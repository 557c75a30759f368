-- The number, the layer and the place under which each fault of a pattern file is refused.
--
-- Refusal     what a refusal tells
-- refusal f   that of the fault f
use Rattle.std.specs.Prelude.{ℕ}
use Rattle.blocks.specs.Faults as blocks
use Rattle.patterns.specs.Refusals as patterns
use Rattle.files.specs.declared.fault.Layer.{Layer}
use Rattle.files.specs.declared.fault.Layer.TheVariants as layer
use Rattle.files.specs.declared.fault.RecordCause.TheVariants.{Heading, Length, Buffer}
use Rattle.files.specs.declared.fault.TableCause.TheVariants.{Pattern, Room}
use Rattle.files.specs.declared.fault.RecordFault.TheVariants as record-fault
use Rattle.files.specs.declared.fault.TableFault.{TableFault}
use Rattle.files.specs.declared.fault.TableFault.TheVariants.{Record, Table}

pub record Refusal : Type 0 where
  pub number : ℕ
  pub layer : Layer
  pub place : ℕ

abbrev pub refusal : TableFault → Refusal
refusal (Record (record-fault.Block f)) =
    record { number = (blocks.refusal f).0; layer = layer.Block; place = (blocks.refusal f).1 }
refusal (Record (record-fault.Record Heading)) = record { number = 25; layer = layer.Record; place = 0 }
refusal (Record (record-fault.Record Length)) = record { number = 26; layer = layer.Record; place = 0 }
refusal (Table (Pattern f)) = record { number = patterns.number f; layer = layer.Table; place = patterns.place f }
refusal (Table Room) = record { number = 27; layer = layer.Table; place = 0 }
refusal (Record (record-fault.Record Buffer)) = record { number = 28; layer = layer.Record; place = 0 }
