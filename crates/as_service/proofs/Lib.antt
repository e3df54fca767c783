mod FewEntries
mod ServedDeriving
