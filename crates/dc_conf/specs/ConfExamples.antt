-- Configurations whose faults, or databases, are worked out.
use Rattle.std.specs.Prelude.{◌≡◌, true, false, ℕ, List, [], ◌∷◌, ◌++◌, None, map as each, codes}
use Rattle.dc_text.specs.Lines.{text_of}
use Rattle.dc_conf.specs.Stanzas.{stanzas, fields_of}
use Rattle.dc_conf.specs.ConfFaults.{fault, passes}
use Rattle.dc_conf.specs.Configuration.{configuration}
use Rattle.dc_conf.specs.declared.spec.LayerSort.TheVariants.{Tree, Pipe}
use Rattle.dc_conf.specs.declared.faults.Fault.{Fault}
use Rattle.dc_conf.specs.declared.spec.LayerSpec.{LayerSpec}
use Rattle.dc_conf.specs.declared.faults.ConfKind.TheVariants.{NoColon, Twice, TooMany, NoConfig, NoTemplates, NoName, UnknownDriver, MissingField, BadValue, SamePlace, UnknownDatabase, Cycle, SharedDatabase}

-- the databases that a text says, where no pass has a fault
abbrev pub databases_in : List ℕ → List LayerSpec
databases_in text = (configuration (each fields_of (stanzas text))).specs

-- a text with these two databases as roots, of which the second is in a file, and more stanzas, from line 4 on
abbrev pub with_more : List (List ℕ) → List ℕ
with_more lines =
    text_of (codes "Config: s" ∷ codes "Templates: t" ∷ [] ∷ lines
    ++ [] ∷ codes "Name: x" ∷ codes "Driver: File" ∷ codes "Filename: x.dat" ∷ [] ∷ codes "Name: t" ∷ codes "Driver: File" ∷ codes "Filename: t.dat" ∷ [])

abbrev pub clean_but_third : Fault → List Fault → List (List Fault)
clean_but_third first more = [] ∷ [] ∷ (first ∷ more) ∷ [] ∷ []

-- no text at all; no Templates; a driver that isn't known; one database for both; a file below a folder; a mode that one folder
-- takes for its own and another ignores; values that folders don't take; a second pipe, and ends that pipes don't take; the database in a
-- folder, and one that comes through a pipe and goes nowhere
pub record Examples : Type 0 where
  pub empty : passes [] ≡ [] ∷ (fault 1 NoConfig ∷ fault 1 NoTemplates ∷ []) ∷ [] ∷ [] ∷ []
  pub alone : passes (codes "Config: a") ≡ [] ∷ (fault 1 NoTemplates ∷ []) ∷ (fault 1 UnknownDatabase ∷ []) ∷ [] ∷ []
  pub driver : passes (text_of (codes "Config: a" ∷ codes "Templates: b" ∷ [] ∷ codes "Name: a" ∷ codes "Driver: LDAP" ∷ []))
      ≡ [] ∷ (fault 5 UnknownDriver ∷ []) ∷ (fault 2 UnknownDatabase ∷ []) ∷ [] ∷ []
  pub shared : passes (text_of (codes "Config: t" ∷ codes "Templates: t" ∷ [] ∷ codes "Name: t" ∷ codes "Driver: File" ∷ codes "Filename: t.dat" ∷ []))
      ≡ [] ∷ [] ∷ [] ∷ (fault 2 SharedDatabase ∷ []) ∷ []
  pub lines : passes (text_of (codes "# Config" ∷ codes "Config : t" ∷ codes "oops" ∷ codes "CONFIG: t" ∷ []))
      ≡ (fault 3 NoColon ∷ fault 4 Twice ∷ []) ∷ (fault 2 NoTemplates ∷ []) ∷ (fault 2 UnknownDatabase ∷ []) ∷ [] ∷ []
  pub missing : passes (text_of (codes "Config: t" ∷ codes "Templates: u" ∷ [] ∷ codes "# x" ∷ codes "Driver: file" ∷ codes "Mode: 888" ∷ []))
      ≡ [] ∷ (fault 5 NoName ∷ fault 5 MissingField ∷ fault 6 BadValue ∷ []) ∷ (fault 1 UnknownDatabase ∷ fault 2 UnknownDatabase ∷ []) ∷ [] ∷ []
  pub below : passes (text_of (codes "Config: t" ∷ codes "Templates: t" ∷ [] ∷ codes "Name: t" ∷ codes "Driver: File" ∷ codes "Filename: a" ∷ []
      ∷ codes "Name: t" ∷ codes "Driver: File" ∷ codes "Filename: a-old/b" ∷ []))
      ≡ [] ∷ (fault 8 Twice ∷ fault 10 SamePlace ∷ []) ∷ [] ∷ (fault 2 SharedDatabase ∷ []) ∷ []
  pub folder : passes (text_of (codes "Config: t" ∷ codes "Templates: u" ∷ [] ∷ codes "Name: t" ∷ codes "Driver: DirTree" ∷ codes "Directory: a/" ∷ []
      ∷ codes "Name: u" ∷ codes "Driver: File" ∷ codes "Filename: a/b" ∷ []))
      ≡ [] ∷ (fault 10 SamePlace ∷ []) ∷ [] ∷ [] ∷ []
  pub modes : passes (text_of (codes "Config: t" ∷ codes "Templates: u" ∷ [] ∷ codes "Name: t" ∷ codes "Driver: dirtree" ∷ codes "Directory: a" ∷ codes "Mode: 888" ∷ []
      ∷ codes "Name: u" ∷ codes "Driver: PackageDir" ∷ codes "Directory: b" ∷ codes "Mode: 888" ∷ codes "Backup: x" ∷ []))
      ≡ [] ∷ (fault 12 BadValue ∷ []) ∷ [] ∷ [] ∷ []
  pub values : passes (text_of (codes "Config: t" ∷ codes "Templates: u" ∷ [] ∷ codes "Name: t" ∷ codes "Driver: DirTree" ∷ codes "Directory: /" ∷ []
      ∷ codes "Name: u" ∷ codes "Driver: PackageDir" ∷ codes "Extension: dat" ∷ []))
      ≡ [] ∷ (fault 6 BadValue ∷ fault 8 MissingField ∷ fault 10 BadValue ∷ []) ∷ [] ∷ [] ∷ []
  pub pipes : passes (text_of (codes "Config: t" ∷ codes "Templates: u" ∷ [] ∷ codes "Name: t" ∷ codes "Driver: Pipe" ∷ codes "Infd: 1" ∷ codes "Outfd: none"
      ∷ [] ∷ codes "Name: u" ∷ codes "Driver: pipe" ∷ codes "Outfd: 0" ∷ []))
      ≡ [] ∷ (fault 6 BadValue ∷ fault 9 TooMany ∷ fault 11 BadValue ∷ []) ∷ [] ∷ [] ∷ []
  -- a stack of a stack; two that name each other; a name that a stack gives twice; a stack that names a database and another that
  -- reaches it; a backup of a database in itself, by way of another; two roots that share one
  pub nested : passes (with_more (codes "Name: s" ∷ codes "Driver: Stack" ∷ codes "Stack: r" ∷ [] ∷ codes "Name: r" ∷ codes "Driver: Stack" ∷ codes "Stack: x" ∷ []))
      ≡ [] ∷ [] ∷ [] ∷ [] ∷ []
  pub cycle : passes (with_more (codes "Name: s" ∷ codes "Driver: Stack" ∷ codes "Stack: r" ∷ [] ∷ codes "Name: r" ∷ codes "Driver: Stack" ∷ codes "Stack: s" ∷ []))
      ≡ clean_but_third (fault 6 Cycle) (fault 10 Cycle ∷ [])
  pub twice : passes (with_more (codes "Name: s" ∷ codes "Driver: Stack" ∷ codes "Stack: x, x" ∷ [])) ≡ clean_but_third (fault 6 SharedDatabase) []
  pub below_too : passes (with_more (codes "Name: s" ∷ codes "Driver: Stack" ∷ codes "Stack: x r" ∷ [] ∷ codes "Name: r" ∷ codes "Driver: Debug" ∷ codes "Db: x" ∷ []))
      ≡ clean_but_third (fault 6 SharedDatabase) []
  pub backed_up : passes (with_more (codes "Name: s" ∷ codes "Driver: Backup" ∷ codes "Backupdb: r" ∷ codes "Db: x" ∷ [] ∷ codes "Name: r" ∷ codes "Driver: Stack" ∷ codes "Stack: x" ∷ []))
      ≡ clean_but_third (fault 6 SharedDatabase) []
  pub shared_below : passes (with_more (codes "Name: s" ∷ codes "Driver: Debug" ∷ codes "Db: t" ∷ [])) ≡ [] ∷ [] ∷ [] ∷ (fault 2 SharedDatabase ∷ []) ∷ []
  pub tree : databases_in (text_of (codes "Config: t" ∷ codes "Templates: u" ∷ [] ∷ codes "Name: t" ∷ codes "Driver: DirTree" ∷ codes "Directory: a/" ∷ codes "Mode: 644" ∷ []))
      ≡ record {
        name = codes "t";
        sort = Tree;
        place = codes "a";
        extension = codes ".dat";
        mode = 384;
        backup = false;
        infd = false;
        outfd = false;
        readonly = false;
        required = true;
        accept_name = None;
        reject_name = None;
        accept_type = None;
        reject_type = None;
      } ∷ []
  pub pipe : databases_in (text_of (codes "Config: t" ∷ codes "Templates: u" ∷ [] ∷ codes "Name: t" ∷ codes "Driver: Pipe" ∷ codes "OutFd: none" ∷ []))
      ≡ record {
        name = codes "t";
        sort = Pipe;
        place = [];
        extension = [];
        mode = 384;
        backup = false;
        infd = true;
        outfd = false;
        readonly = false;
        required = true;
        accept_name = None;
        reject_name = None;
        accept_type = None;
        reject_type = None;
      } ∷ []
