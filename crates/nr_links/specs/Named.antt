-- What the constant pool of a class file names in a program: JVM Specification 4.4 and 5.4.3.1.
use Rattle.std.specs.Prelude.{◌≡◌, ℕ, List, Option, Some, None, IsTrue}
use Rattle.std.specs.Option.{option_map_or}
use Rattle.nr_prog.specs.declared.pool.PoolEntry.{PoolEntry}
use Rattle.nr_prog.specs.declared.pool.PoolEntry.TheVariants.{NameAndType}
use Rattle.nr_linked.specs.declared.program.kind.Kind.{Kind}
use Rattle.nr_linked.specs.declared.program.tables.ProgramTables.{ProgramTables}
use Rattle.nr_prog.specs.BodyNames.{IsClassOf, NamesClassBy, desc_text_at}
use Rattle.nr_prog.specs.Pool.{entry_at, text_at}
use Rattle.nr_linked.specs.KindTexts.{kind_desc}
use Rattle.nr_linked.specs.Linked.{is_kind_in}

-- the class or the array that the entry at the index names; its class is one of the program (4.4.1, 5.4.3.1)
pub record NamesKind (P : ProgramTables) (pool : List PoolEntry) (index : ℕ) (k : Kind) : Type 0 where
  pub text : NamesClassBy (λ bytes. IsClassOf bytes (kind_desc P k)) pool index
  pub known : IsTrue (is_kind_in P k)

abbrev pub name_text_in : List PoolEntry → PoolEntry → Option (List ℕ)
name_text_in pool (NameAndType name desc) = text_at pool name
name_text_in pool e = None

-- the bytes of the name that the NameAndType at the index names (4.4.6)
abbrev pub name_text_at : List PoolEntry → ℕ → Option (List ℕ)
name_text_at pool index = option_map_or (name_text_in pool) (entry_at pool index) None

-- what a reference to a field or a method names: a class or an array, a name and a descriptor (4.4.2)
pub record NamesMember (P : ProgramTables) (pool : List PoolEntry) («class» member : ℕ) (k : Kind) (name desc : List ℕ) : Type 0 where
  pub kind : NamesKind P pool «class» k
  pub named : name_text_at pool member ≡ Some name
  pub described : desc_text_at pool member ≡ Some desc
