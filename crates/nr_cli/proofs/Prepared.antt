-- What a linked program is.
use Rattle.std.proofs.Common.{◌≡◌, List, Option, None, Ok, sym, ap, ◌∙◌}
use Rattle.std.specs.List.{All}
use Rattle.std.specs.Option.{option_map_or}
use Rattle.std.specs.Prelude.{Err}
use Rattle.nr_prog.specs.declared.body.loaded.Loaded.{Loaded}
use Rattle.nr_linked.specs.declared.program.tables.ProgramTables.{ProgramTables}
use Rattle.nr_links.specs.Links.{Links}
use Rattle.nr_linkrules.specs.declared.fault.LinkFault.{LinkFault}
use Rattle.nr_linkrules.specs.Completion.{linked_program}
use Rattle.nr_linkrules.specs.LinkFaults.{link_fault}
use Rattle.nr_linkrules.specs.Readable.{IsReadable}
use Rattle.nr_linkrules.proofs.Linking.{no_other}
use Rattle.nr_cli.specs.Programs.{linked_of}
use Rattle.nr_cli.specs.declared.ending.End.TheVariants.{Link}

pub linked_is : (classes : List Loaded) (P : ProgramTables) → All IsReadable classes → Links classes P → link_fault classes ≡ None → Ok P ≡ linked_of classes
linked_is classes P all links none =
    ap (λ (z : ProgramTables). Ok z) (no_other classes P all links)
    ∙ sym (ap (λ (z : Option LinkFault). option_map_or (λ fault. Err (Link fault)) z (Ok (linked_program classes))) none)
