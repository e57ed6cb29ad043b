mod File
